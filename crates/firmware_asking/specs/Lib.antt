-- What the contracts of `firmware_asking` cite.
pub mod Paper
pub mod Asking
