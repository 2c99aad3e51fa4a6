-- The laws of this crate.
pub mod Totals
pub mod SeatNameLemmas
pub mod ManySeats
