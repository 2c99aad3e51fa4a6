-- The lemmas of this crate.
pub mod InputFronts
pub mod ServingSteps
