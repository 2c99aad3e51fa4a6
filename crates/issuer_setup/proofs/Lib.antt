-- The laws of this crate.
pub mod Elements
pub mod Names
pub mod KeyListLemmas
pub mod CardListLemmas
pub mod CardIdLemmas
pub mod KeptKeysLemmas
pub mod Shards
