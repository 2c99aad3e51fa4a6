-- The definitions that the contracts of this crate cite.
pub mod Turns
pub mod OwnTails
pub mod OneHistory
pub mod Room
pub mod Runs
pub mod Restarts
