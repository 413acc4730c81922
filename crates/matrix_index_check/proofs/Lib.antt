pub mod Answers
pub mod Claims
pub mod Passing
