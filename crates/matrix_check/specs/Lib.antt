-- What the contracts of `matrix_check` cite.
pub mod Parts
