-- The lemmas of this crate, lowest first.
pub mod OpeningLemmas
pub mod LogSteps
pub mod Standing
pub mod Since
pub mod Answered
pub mod Ending
pub mod Turning
pub mod ListLemmas
