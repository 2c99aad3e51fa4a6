-- The definitions that the contracts of this crate cite.
pub mod Books
pub mod Hosts
pub mod StoreRoom
pub mod Loading
pub mod Slots
