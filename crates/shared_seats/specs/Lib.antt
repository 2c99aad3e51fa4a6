-- The definitions that the contracts of this crate cite.
pub mod SeatNames
pub mod Totals
