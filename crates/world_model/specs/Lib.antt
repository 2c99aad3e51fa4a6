-- The definitions that the contracts of this crate cite.
pub mod Counters
pub mod Stepping
pub mod OpeningWorld
pub mod FallBack
pub mod Replaying
pub mod LastPins
