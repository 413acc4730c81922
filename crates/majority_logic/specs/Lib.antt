-- Majority-logic decoding in one step, and what is proved of it.
pub mod Paper
