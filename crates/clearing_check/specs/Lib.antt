-- The definitions that the contracts of this crate cite.
pub mod ClearingLine
pub mod Verdicts
pub mod Records
pub mod AtcPages
pub mod NextOpen
pub mod Inside
pub mod ClearText
