-- The lemmas of this crate.
pub mod Finding
pub mod FirstPlace
pub mod Numbers
pub mod OneLine
pub mod LookUps
