-- The lemmas of this crate, lowest first.
pub mod Passing
pub mod ReadSoFar
pub mod Rooms
