-- The laws of this crate.
pub mod Lengths
pub mod Sessions
pub mod Blocks
pub mod Nibbles
pub mod Options
pub mod Packing
pub mod Taking
pub mod Suites
pub mod MacLengths
