-- What the contracts of `quantiser_widths` cite.
pub mod Paper
