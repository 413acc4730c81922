-- What the contracts of `syndrome_sets` cite.
pub mod Turns
pub mod Counts
