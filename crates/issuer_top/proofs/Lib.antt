-- The lemmas of this crate.
mod ServingEnds
mod ShowingEnds
mod PlayingEnds
mod Commands
pub mod EndingSteps
pub mod InOrder
pub mod ReadingSteps
pub mod ReplicaLaws
pub mod Accounting
pub mod ClearingSteps
pub mod ExportingSteps
pub mod StandingSteps
pub mod StandbyRestarts
pub mod ReplicaCrashes
pub mod FillingSteps
pub mod PinLines
pub mod PinSteps
pub mod OpeningSteps
