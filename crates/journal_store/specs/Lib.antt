-- The definitions that the contracts of this crate cite.
pub mod Images
pub mod Holding
pub mod Opening
