pub mod Writing
pub mod Lent
pub mod Starting
pub mod Listing
