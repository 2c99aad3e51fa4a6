-- The definitions that the contracts of this crate cite.
pub mod Views
pub mod Parts
pub mod Texts
pub mod Reading
pub mod Starts
pub mod Messages
pub mod News
pub mod TurnReading
pub mod Givens
pub mod Acts
pub mod ActLines
