-- The lemmas of this crate, lowest first.
pub mod CardNames
pub mod OneMoreRecord
pub mod OtherRecords
pub mod RecordPlaces
pub mod LongerHistories
pub mod ScriptSteps
pub mod Batches
pub mod CommandsInOrder
pub mod LegalDecisions
