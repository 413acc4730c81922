-- What the contracts of `matrix_order` cite.
pub mod Order
