-- The laws of this crate.
pub mod ClaimBits
pub mod ClaimCounts
pub mod ContestLemmas
pub mod KeepsClaims
pub mod OpeningLemmas
pub mod WordPlaces
