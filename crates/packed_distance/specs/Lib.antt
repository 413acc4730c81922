-- What the contracts of `packed_distance` cite.
pub mod Paper
pub mod Parts
