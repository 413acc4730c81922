-- What the contracts of `sheet_to_list` cite.
pub mod Paper
pub mod Parts
