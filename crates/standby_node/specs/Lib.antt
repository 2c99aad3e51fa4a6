-- The definitions that the contracts of this crate cite.
pub mod FeedLines
pub mod Streams
pub mod Standing
pub mod KeptTexts
pub mod ReadLines
pub mod Primary
pub mod OneLine
