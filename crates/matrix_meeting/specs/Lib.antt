-- What the contracts of `matrix_meeting` cite.
pub mod Marks
pub mod Overlaps
