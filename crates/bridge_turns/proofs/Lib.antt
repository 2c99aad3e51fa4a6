-- The lemmas of this crate.
pub mod Shards
pub mod Batches
pub mod Holding
pub mod Ways
pub mod Releasing
pub mod Standings
pub mod Spoken
pub mod Turning
pub mod Turned
