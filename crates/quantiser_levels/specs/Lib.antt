-- What the contracts of `quantiser_levels` cite.
pub mod Paper
pub mod Scale
