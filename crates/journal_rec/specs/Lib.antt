-- The definitions that the contracts of this crate cite.
pub mod RecordText
pub mod Record
pub mod Reading
