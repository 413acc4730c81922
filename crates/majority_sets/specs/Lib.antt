-- What the contracts of `majority_sets` cite.
pub mod Sets
