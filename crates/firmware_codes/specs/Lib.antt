-- What the contracts of `firmware_codes` cite.
pub mod Paper
