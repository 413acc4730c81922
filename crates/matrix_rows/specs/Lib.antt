-- What the contracts of `matrix_rows` cite.
pub mod Rows
pub mod Filling
