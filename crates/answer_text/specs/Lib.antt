-- The definitions that the contracts of this crate cite.
pub mod AnswerText
pub mod CountText
pub mod StopText
pub mod QueueText
