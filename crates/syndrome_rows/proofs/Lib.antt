pub mod Lowest
pub mod Listing
pub mod Only
