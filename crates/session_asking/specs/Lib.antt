-- What the contracts of `session_asking` and of the crates above it cite.
pub mod Paper
pub mod Parts
