-- The flipping rule for iterative voting.
pub mod Paper
