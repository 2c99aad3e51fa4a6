-- The lemmas of this crate.
pub mod ClearNames
pub mod CommandWords
pub mod FeedNames
pub mod PinOrders
