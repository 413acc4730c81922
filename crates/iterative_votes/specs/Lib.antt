-- What the contracts of `iterative_votes` cite.
pub mod Kept
