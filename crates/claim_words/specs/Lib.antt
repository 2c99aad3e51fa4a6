-- The definitions that the contracts of this crate cite.
pub mod ClaimRule
pub mod ClaimSteps
pub mod ClaimViews
pub mod Contest
pub mod Layout
pub mod Opening
pub mod Seats
