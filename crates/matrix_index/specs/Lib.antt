-- What the contracts of `matrix_index` cite.
pub mod Paper
pub mod Filling
