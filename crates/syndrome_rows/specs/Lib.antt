-- What the contracts over listed checks cite.
pub mod Words
