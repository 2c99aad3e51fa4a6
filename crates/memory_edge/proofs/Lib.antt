-- The laws of this crate.
pub mod DiskMoves
pub mod KeptChanges
pub mod StoreCalls
