-- The lemmas of this crate.
pub mod AloneSteps
pub mod Durable
pub mod DurableAlone
pub mod TogetherSteps
pub mod LoadingTogether
pub mod HostSteps
pub mod LogBooks
pub mod ReadAgain
pub mod Ready
pub mod Closing
pub mod Judged
mod KeptLines
mod Feeding
mod Counts
