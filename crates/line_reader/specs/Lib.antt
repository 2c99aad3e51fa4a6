-- The definitions that the contracts of this crate cite.
pub mod Lines
pub mod Reading
pub mod NextLine
pub mod Window
pub mod KeptLines
