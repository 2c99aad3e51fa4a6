-- The lemmas of this crate.
mod Ties
mod Added
mod Settling
mod TiedTurns
mod RecordedLists
mod OpeningCounters
pub mod Sharing
mod Closed
mod Answered
pub mod LookUps
