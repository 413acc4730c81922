pub mod Turns
pub mod Flips
pub mod KeptParities
