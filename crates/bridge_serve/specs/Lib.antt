-- The definitions that the contracts of this crate cite.
pub mod Runs
pub mod Faults
pub mod Reading
pub mod Ends
pub mod Status
pub mod Printing
pub mod Written
