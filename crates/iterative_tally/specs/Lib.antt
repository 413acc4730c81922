-- What the contract of `iterative_tally` cites.
pub mod Retally
