-- Which lines of an input were answered, and what serving them does.
pub mod Answered
pub mod Serving
