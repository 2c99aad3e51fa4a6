-- The definitions that the contracts of this crate cite.
pub mod Sealing
pub mod Batch
pub mod Pins
pub mod PinChange
