-- What the contracts of `matrix_index_check` cite.
pub mod Paper
pub mod Agree
