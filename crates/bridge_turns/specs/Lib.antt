-- The definitions that the contracts of this crate cite.
pub mod Publishing
pub mod Partitions
pub mod Saying
pub mod Turns
pub mod Refusals
pub mod Laws
