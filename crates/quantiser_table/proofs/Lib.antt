pub mod Patterns
pub mod Rising
pub mod Tables
