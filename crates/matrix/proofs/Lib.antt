pub mod Rows
pub mod Weights
pub mod Linear
pub mod Ordered
pub mod Tallies
pub mod PlainCheck
pub mod EqualWeights
