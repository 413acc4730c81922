pub mod Spreads
pub mod Bytes
