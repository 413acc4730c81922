pub mod Buffers
pub mod Calls
pub mod WholeBySteps
pub mod StepsRule
pub mod Answers
pub mod Kept
