-- What the contracts of `matrix_sets` cite.
pub mod Sets
