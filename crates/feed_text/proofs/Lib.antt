-- The lemmas of this crate, lowest first.
pub mod Heads
pub mod Digits
