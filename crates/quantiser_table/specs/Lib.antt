-- What the contracts of `quantiser_table` cite.
pub mod Least
pub mod Scales
