pub mod Parts
pub mod Questions
