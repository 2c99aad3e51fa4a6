-- The laws of this crate.
pub mod Prefixed
pub mod Words
pub mod Counts
pub mod Legal
pub mod Sound
pub mod StreamGrows
pub mod Moves
pub mod Making
pub mod Reading
pub mod Runs
pub mod KeptPromises
pub mod Following
