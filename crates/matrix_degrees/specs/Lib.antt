-- What the contracts of `matrix_degrees` cite.
pub mod Degrees
