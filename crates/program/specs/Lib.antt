-- What the contracts of `program` cite.
pub mod Paper
pub mod Pieces
pub mod Turns
pub mod Examples
