-- The laws of this crate.
pub mod OpenedPins
pub mod LastPins
