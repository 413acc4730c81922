pub mod Floats
pub mod Guesses
pub mod Taking
