-- What the contracts of `program_tables` cite.
pub mod Tables
