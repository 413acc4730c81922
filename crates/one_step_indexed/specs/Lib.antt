-- What the contracts of `one_step_indexed` cite.
pub mod Paper
