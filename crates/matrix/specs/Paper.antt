-- What a reader must believe: document 01's definitions and the statements of the theorems.
pub mod Code
pub mod Check
pub mod PlainCheck
pub mod Shapes
pub mod EqualWeights
