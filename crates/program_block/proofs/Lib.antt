pub mod Answers
pub mod Started
pub mod Lines
