-- The definitions that the contracts of this crate cite.
pub mod Fields
pub mod Objects
pub mod Forms
pub mod HexDigits
pub mod Reading
pub mod Slots
pub mod SlotViews
pub mod Lines
pub mod LineParts
pub mod InBuffer
