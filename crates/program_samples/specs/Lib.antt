-- What the contracts of `program_samples` cite.
pub mod Taken
