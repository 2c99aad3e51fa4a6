-- The definitions that the contracts of this crate cite.
pub mod Application
pub mod CardSteps
