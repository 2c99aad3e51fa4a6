-- The laws of this crate.
pub mod Gates
pub mod Circuits
pub mod Pairs
pub mod RoundSteps
pub mod KeyPlaces
pub mod SmallPlaces
pub mod Turns
pub mod WordLanes
pub mod LaneWords
pub mod MacSteps
