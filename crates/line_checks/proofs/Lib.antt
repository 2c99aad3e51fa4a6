-- The laws of this crate.
pub mod Numbers
pub mod KeptLines
pub mod LookUps
pub mod RightSessions
pub mod Again
pub mod CheckedRequests
pub mod Orders
