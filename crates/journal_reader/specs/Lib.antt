-- The definitions that the contracts of this crate cite.
pub mod Reading
pub mod Filing
pub mod Exporting
pub mod Accounts
pub mod Copies
