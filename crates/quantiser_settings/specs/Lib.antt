-- What the contracts of `quantiser_settings` cite, refusal 6 in plain words, document 01's examples of widths, and settings by their numbers.
pub mod Paper
pub mod Examples
pub mod Gain
pub mod Numbers
