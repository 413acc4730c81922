pub mod Answers
pub mod Iterative
pub mod Tells
pub mod Back
pub mod Rule
