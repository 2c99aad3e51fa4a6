-- The lemmas of this crate.
pub mod Serving
pub mod Parts
pub mod Written
