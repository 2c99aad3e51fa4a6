-- The definitions that the contracts of this crate cite.
pub mod LastPin
pub mod PinCards
