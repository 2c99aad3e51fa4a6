-- The definitions that the contracts of this crate cite.
pub mod OutsideMemory
pub mod KeptDisk
pub mod MemoryStores
pub mod MemoryDesks
