-- The lemmas of this crate, lowest first.
pub mod Lines
pub mod Streams
pub mod Following
pub mod Shards
pub mod OneLine
pub mod Taken
pub mod Pieces
pub mod Fed
pub mod Ahead
pub mod Packing
pub mod Ready
