-- The laws of this crate.
pub mod Opening
pub mod Batches
pub mod PinBlocks
pub mod PinChanges
