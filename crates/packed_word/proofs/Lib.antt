pub mod Digits
pub mod Masks
pub mod Distances
pub mod Packed
pub mod Stores
