-- The lemmas of this crate.
pub mod OneShard
pub mod Asked
pub mod TurnSteps
pub mod LegalBooks
pub mod OneRun
pub mod Rooms
pub mod Shown
pub mod OwnTails
pub mod Running
pub mod Orders
pub mod Restarts
