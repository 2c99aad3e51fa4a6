-- The laws of this crate.
pub mod HexText
pub mod Lines
