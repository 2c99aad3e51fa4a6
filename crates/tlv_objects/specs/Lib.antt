-- The definitions that the contracts of this crate cite.
pub mod Tlv
pub mod Seen
pub mod Grammar
pub mod Writing
