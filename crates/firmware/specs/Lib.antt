-- What the contracts of `firmware` cite.
pub mod Paper
