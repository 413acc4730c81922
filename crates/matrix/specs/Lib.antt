-- The parity-check matrix, and the check of it in tests and in its plain reading.
pub mod Paper
pub mod Linear
pub mod Ordered
pub mod Tallies
