-- What the contracts of `iterative_indexed` cite.
pub mod Paper
