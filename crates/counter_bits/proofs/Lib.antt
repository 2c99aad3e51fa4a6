-- The lemmas of this crate, lowest first.
pub mod Bits
pub mod Listing
