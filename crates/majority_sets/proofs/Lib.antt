pub mod Bytes
pub mod Shares
