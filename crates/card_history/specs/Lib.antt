-- The definitions that the contracts of this crate cite.
pub mod Records
pub mod Scripts
pub mod CardViews
pub mod ScriptOrder
pub mod Turns
pub mod LegalRecords
pub mod OneReply
