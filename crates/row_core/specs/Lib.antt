-- The definitions that the contracts of this crate cite.
pub use Rattle.issuer_setup.specs.Shards
pub use Rattle.issuer_setup.specs.KeyList
pub use Rattle.issuer_setup.specs.CardList
pub use Rattle.issuer_setup.specs.IssuerSetup
pub mod CardRow
pub mod Launching
pub mod Known
pub mod Replying
pub mod Plan
pub mod Accepting
pub use Rattle.arpc_methods.specs.Arpc
