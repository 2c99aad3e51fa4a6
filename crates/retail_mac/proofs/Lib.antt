-- The laws of this crate.
pub mod Blocks
pub mod Pieces
pub mod CbcBack
pub mod Padding
