-- What the contracts of `byte_numbers` cite.
pub mod Paper
pub mod Floats
