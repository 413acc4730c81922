-- What the contracts of `sheet_store` cite.
pub mod Storing
