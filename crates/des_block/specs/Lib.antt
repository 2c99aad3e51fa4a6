-- The definitions that the contracts of this crate cite.
pub mod Bits
pub mod Tables
pub mod Cipher
pub mod Schedule
pub mod Keyed
pub mod Permuted
