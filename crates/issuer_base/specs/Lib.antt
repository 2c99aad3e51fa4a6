-- The definitions that the contracts of this crate cite.
pub mod CardNumber
pub mod ChipData
pub mod ScriptCommand
pub mod ScriptTemplate
pub mod Tells
pub mod OutsideFaults
pub mod Sink
pub mod Desk
pub mod Stores
pub mod CardNames
pub mod TheOnly
