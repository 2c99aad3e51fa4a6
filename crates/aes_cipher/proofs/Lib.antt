-- The laws of this crate.
pub mod RoundSteps
pub mod MergedTables
pub mod ScheduleSteps
pub mod Blocks
pub mod Pieces
pub mod Laws
