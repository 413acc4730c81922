pub mod Changes
pub mod Marks
