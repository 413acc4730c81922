pub mod Shares
pub mod Filling
pub mod Rows
