-- What the contracts of `program_text` cite.
pub mod Paper
