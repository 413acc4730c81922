pub mod Words
pub mod Gone
pub mod Marks
pub mod Overlaps
