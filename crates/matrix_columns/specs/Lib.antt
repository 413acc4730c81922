-- What the contracts of `matrix_columns` cite.
pub mod Columns
pub mod Filling
