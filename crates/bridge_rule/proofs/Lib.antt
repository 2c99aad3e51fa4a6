-- The laws of this crate.
pub mod LogSteps
pub mod Taking
pub mod Settling
pub mod Standing
pub mod ReadingRecords
pub mod NeverDiverged
pub mod Forgetting
pub mod ReadingBarriers
pub mod Leaving
pub mod Learning
pub mod Waiting
pub mod Beginnings
pub mod Others
