pub mod Bounds
pub mod Alike
pub mod Sessions
