pub mod Turns
pub mod Counts
pub mod KeptSets
