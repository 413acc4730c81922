-- What the contracts of `sheet_bytes` cite.
pub mod Parts
