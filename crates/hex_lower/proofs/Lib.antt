-- The lemmas of this crate.
mod Digits
mod Overlap
