-- The laws of this crate.
pub mod Bytes
pub mod NumberBytes
pub mod NumberRead
pub mod ObjectsText
pub mod ObjectsRead
pub mod RequestRead
pub mod DolWalk
pub mod DataWalk
pub mod FieldsOf
pub mod LineRequestRead
pub mod LineRead
