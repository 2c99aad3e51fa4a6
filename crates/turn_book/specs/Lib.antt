-- The definitions that the contracts of this crate cite.
pub mod Counting
pub mod Layout
pub mod Logs
pub mod Opening
pub mod Seats
pub mod TurnRule
pub mod TurnSteps
pub mod TurnViews
