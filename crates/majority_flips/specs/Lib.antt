-- What the contracts of `majority_flips` cite.
pub mod Flips
