-- What the contracts of `packed_word` cite.
pub mod Paper
pub mod Steps
