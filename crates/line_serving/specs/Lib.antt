-- The hosts that lines are served with, and what serving does.
pub mod Idle
pub mod Durable
pub mod Hosts
pub mod Leaving
pub mod Loaded
pub mod Clearing
pub mod Following
pub use Rattle.shared_laws.specs.Answers
