-- The laws of this crate.
pub mod TableLemmas
pub mod DecisionLemmas
