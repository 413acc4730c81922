-- The worked examples and their proof.
pub mod Paper
