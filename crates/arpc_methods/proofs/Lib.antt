-- The laws of this crate.
pub mod ArpcBlocks
pub mod Blocks
pub mod Counted
pub mod Lengths
