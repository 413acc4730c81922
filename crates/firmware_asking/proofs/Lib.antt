pub mod ZeroStep
pub mod Settings
pub mod Questions
