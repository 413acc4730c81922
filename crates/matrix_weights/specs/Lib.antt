-- What the contracts of `matrix_weights` cite.
pub mod Weights
