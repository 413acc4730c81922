-- What the contracts of `program_numerals` cite.
pub mod Paper
pub mod Texts
