-- What the contracts of `changed_bits` cite.
pub mod Paper
