-- The laws of this crate.
pub mod SlotLemmas
pub mod OpenSlots
