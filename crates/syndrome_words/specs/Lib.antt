-- What the contracts over words of checks cite.
pub mod Sets
