-- What the contracts of `sheet_rows` cite.
pub mod Parts
