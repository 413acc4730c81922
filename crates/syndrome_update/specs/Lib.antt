-- What the contracts of `syndrome_update` cite.
pub mod Parities
