pub mod Patterns
pub mod Lists
pub mod Joining
pub mod Floats
