-- The laws of this crate.
pub mod Counters
pub mod NetSteps
pub mod NetRows
pub mod Replies
pub mod NetWrites
pub mod OpeningWorlds
pub mod Truncated
pub mod FallenSteps
pub mod FallenRuns
pub mod FallenRows
pub mod LastPins
