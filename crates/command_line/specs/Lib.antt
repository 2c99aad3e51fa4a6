-- The words of the command line, and what they ask for.
pub mod Command
pub mod Pairs
pub mod PinWords
