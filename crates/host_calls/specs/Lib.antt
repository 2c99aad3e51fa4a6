-- The definitions that the contracts of this crate cite.
pub mod Passes
pub mod Loading
pub mod RecordedCounters
