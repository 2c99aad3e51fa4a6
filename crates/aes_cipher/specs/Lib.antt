-- The definitions that the contracts of this crate cite.
pub mod Field
pub mod Cipher
pub mod Columns
pub mod Mac
pub mod Run
