-- What the contracts of `ffi` cite.
pub mod Calls
