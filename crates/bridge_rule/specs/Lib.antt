-- The definitions that the contracts of this crate cite.
pub mod Openings
pub mod Logs
pub mod Roles
pub mod Bridges
pub mod Events
