-- The definitions that the contracts of this crate cite.
pub mod WorldState
pub mod Allowed
pub mod WorldSteps
pub mod WorldRuns
pub mod Safety
pub mod NewWorld
pub mod Histories
pub mod Fate
