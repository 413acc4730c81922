-- What a reader must believe: document 02's definitions and the statements of the theorems.
pub mod Call
