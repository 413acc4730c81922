pub mod Settings
pub mod Openings
