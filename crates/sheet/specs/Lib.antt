-- What a sheet is, its matrix, and the sheet of a matrix.
pub mod Paper
pub mod Parts
