-- The lemmas of this crate, lowest first.
pub mod WindowLemmas
pub mod LaunchLemmas
pub mod RowLemmas
pub mod Shown
pub mod OtherCards
pub mod PlanLemmas
pub mod AcceptLemmas
pub use Rattle.arpc_methods.proofs.Lengths
