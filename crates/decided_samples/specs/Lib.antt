-- The calls where all places count, and what stays.
pub mod Paper
