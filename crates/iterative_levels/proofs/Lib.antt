pub mod Levels
pub mod Signs
pub mod Passes
