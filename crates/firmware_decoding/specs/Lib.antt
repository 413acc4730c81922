-- What the contracts of `firmware_decoding` cite.
pub mod Paper
pub mod Parts
