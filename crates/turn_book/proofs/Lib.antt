-- The lemmas of this crate, lowest first.
pub mod LogLemmas
pub mod TurnWords
pub mod KeepsTurns
pub mod StepsAllowed
pub mod SeatLemmas
pub mod SeatParts
pub mod ValueLemmas
pub mod BeginsAndEnds
pub mod CountingLemmas
