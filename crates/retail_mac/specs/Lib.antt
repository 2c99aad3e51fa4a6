-- The definitions that the contracts of this crate cite.
pub mod Mac
pub mod Run
pub mod Opening
