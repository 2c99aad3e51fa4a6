-- The definitions that the contracts of this crate cite.
pub mod Json
pub mod Words
pub mod Elements
pub mod RowParts
pub mod Front
pub mod Parts
pub mod Configuration
pub mod Faults
