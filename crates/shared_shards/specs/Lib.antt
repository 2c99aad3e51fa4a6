-- The definitions that the contracts of this crate cite.
pub mod ShardLogs
pub mod Opening
pub mod Turned
pub mod ShardSeats
