-- The laws of this crate.
pub mod DigitTable
pub mod Spelling
pub mod PanLemmas
pub mod Joined
pub mod Exact
pub mod HexText
pub mod DigitPair
pub mod PanText
pub mod Words
pub mod Parts
pub mod Records
pub mod Lines
pub mod TextLaws
