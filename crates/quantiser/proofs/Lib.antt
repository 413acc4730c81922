pub mod Verdicts
pub mod Buffers
