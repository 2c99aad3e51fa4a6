-- The laws of this crate.
pub mod Batches
pub mod CardLaw
pub mod CardMoves
pub mod CardKeeps
pub mod CardRecords
pub mod Hosts
pub mod Worlds
pub mod KeptWorlds
pub mod NewWorlds
pub mod FilledRuns
