-- What the contracts of `ffi_codes` cite.
pub mod Codes
pub mod Settings
pub mod Records
