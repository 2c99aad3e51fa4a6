-- The definitions that the contracts of this crate cite.
pub mod Prefixes
pub mod Streams
pub mod Machines
pub mod Events
pub mod Keys
pub mod Promises
pub mod FirstReply
