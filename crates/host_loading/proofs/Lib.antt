-- The lemmas of this crate.
pub mod Places
pub mod Loads
pub mod StoreRooms
pub mod Together
