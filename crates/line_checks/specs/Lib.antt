-- The definitions that the contracts of this crate cite.
pub mod Parsed
pub mod Reading
pub mod AtHand
pub mod LookedUp
pub mod RequestFacts
pub use Rattle.cryptogram_in.specs.Cryptogram
