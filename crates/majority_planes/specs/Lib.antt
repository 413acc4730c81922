-- What the contracts of `majority_planes` cite.
pub mod Planes
pub mod Adders
