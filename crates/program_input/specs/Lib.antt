-- What the contracts of `program_input` cite.
pub mod Paper
pub mod Runs
