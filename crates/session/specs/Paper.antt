-- What a reader must believe: document 01's definitions and the statements of the theorems.
pub mod Call
pub mod Steps
pub mod WholeBySteps
pub mod StepsRule
