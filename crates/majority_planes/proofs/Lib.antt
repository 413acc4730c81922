pub mod Adders
pub mod Counts
