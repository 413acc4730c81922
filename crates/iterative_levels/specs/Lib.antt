-- What the contracts of `iterative_levels` cite.
pub mod Levels
