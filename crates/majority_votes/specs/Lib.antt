-- What the contracts of `majority_votes` cite.
pub mod Tallies
pub mod Turns
