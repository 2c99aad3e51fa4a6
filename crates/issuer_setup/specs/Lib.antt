-- The definitions that the contracts of this crate cite.
pub mod Elements
pub mod Shards
pub mod KeyList
pub mod CardList
pub mod CardIds
pub mod KeptKeys
pub mod IssuerSetup
pub mod KeySlots
