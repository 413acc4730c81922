-- What a reader must believe: document 01's definitions and the statements of the theorems.
pub mod Program
pub mod LineRule
