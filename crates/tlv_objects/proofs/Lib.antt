-- The laws of this crate.
pub mod Fronts
pub mod Headers
pub mod Texts
pub mod Covering
pub mod Written
