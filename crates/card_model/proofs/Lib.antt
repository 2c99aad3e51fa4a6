-- The laws of this crate.
pub mod Steps
pub mod Requests
pub mod Ran
