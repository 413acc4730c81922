pub mod Instances
pub mod Limits
