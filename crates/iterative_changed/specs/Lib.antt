-- What the contracts of `iterative_changed` and of the crates above it cite.
pub mod Paper
pub mod Marks
