pub mod Levels
pub mod Tells
