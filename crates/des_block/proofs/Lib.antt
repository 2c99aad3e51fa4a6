-- The laws of this crate.
pub mod Digits
pub mod Lengths
pub mod Linear
pub mod WordSteps
pub mod MixedSteps
pub mod ScheduleSteps
pub mod KeyRows
pub mod MergedTables
pub mod Laws
pub mod PermutedSteps
