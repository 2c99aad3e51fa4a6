-- The definitions that the contracts of this crate cite: callers, their lanes, and the lines that they were dealt.
pub mod DueTexts
pub mod Parts
pub mod OneLane
pub mod Turns
pub mod Halves
pub mod Handing
pub mod Dealt
pub mod Seated
pub mod Joins
pub mod Lanes
pub mod Rounds
