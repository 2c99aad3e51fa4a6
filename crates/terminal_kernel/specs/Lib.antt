-- The definitions that the contracts of this crate cite.
pub mod Dol
pub mod Given
pub mod Filling
pub mod Requested
pub mod Held
pub mod ChipText
