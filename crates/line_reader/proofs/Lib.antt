-- The laws of this crate.
pub mod Pieces
pub mod InLine
pub mod LineLaws
pub mod WholeLines
mod Packing
