-- What the contracts of `iterative_core` cite.
pub mod Paper
pub mod Calls
