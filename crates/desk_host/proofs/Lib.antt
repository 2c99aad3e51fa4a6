-- The lemmas of this crate.
pub mod ConfigurationReads
pub mod HostRuns
pub mod WorldLaws
pub mod JournalSteps
pub mod SeenSteps
pub mod CrashSteps
pub mod KeptSteps
pub mod LeftSteps
pub mod LoadingSteps
pub mod LoadedLaws
pub mod ShowSteps
pub mod Joined
pub mod OwnRecords
pub mod OneAnswer
pub mod AnyTable
pub mod RowApproves
