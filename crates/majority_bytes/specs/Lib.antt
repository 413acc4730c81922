-- What the contracts of `majority_bytes` cite.
pub mod Bytes
