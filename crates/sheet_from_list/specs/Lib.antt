-- What the contracts of `sheet_from_list` cite.
pub mod Paper
