-- What a call on a line does, and what is known of a host's logs as they are opened and closed.
pub mod Decisions
pub mod OpeningLogs
pub mod PreChecks
pub mod Finishes
pub mod Authorising
pub mod Closing
pub mod Dealing
pub mod Shares
pub mod Callers
pub mod Explained
pub mod OwnPlaces
pub mod Settled
pub mod FaultCounts
pub mod Laws
pub mod Answers
pub use Rattle.one_caller.specs.OneHistory
