-- The laws of this crate.
pub mod JsonLemmas
pub mod WordsLemmas
pub mod RowPartsLemmas
pub mod FrontLemmas
pub mod PartsLemmas
pub mod TableLemmas
