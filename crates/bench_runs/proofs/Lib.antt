-- The lemmas of this crate, lowest first.
mod Tallies
