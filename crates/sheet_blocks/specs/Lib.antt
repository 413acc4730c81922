-- What the contracts of `sheet_blocks` cite.
pub mod Parts
