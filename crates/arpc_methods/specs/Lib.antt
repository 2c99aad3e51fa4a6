-- The definitions that the contracts of this crate cite.
pub mod Arpc
pub mod Ahead
pub mod Batch
