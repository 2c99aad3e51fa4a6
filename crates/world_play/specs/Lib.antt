-- The definitions that the contracts of this crate cite.
pub mod SummaryText
pub mod Setting
pub mod Handing
pub mod Moves
pub mod Play
pub mod Reaching
pub mod Genuine
pub mod Cards
pub mod Room
