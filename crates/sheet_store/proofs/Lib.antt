pub mod Joining
pub mod Shifts
pub mod Whole
pub mod Marking
