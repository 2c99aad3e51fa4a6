-- The lemmas of this crate, lowest first.
pub mod Reading
pub mod Filed
pub mod LegalTexts
pub mod Exact
pub mod FiledStores
pub mod Exported
pub mod FilingStops
pub mod ExportedStores
pub mod Members
pub mod Marks
pub mod Approvals
pub mod Verdicts
pub mod Totals
pub mod Feeding
