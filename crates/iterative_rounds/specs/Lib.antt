-- What the contracts of `iterative_rounds` cite.
pub mod Paper
pub mod Runs
pub mod Alike
