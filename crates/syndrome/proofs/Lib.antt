pub mod Parity
pub mod Received
pub mod Lists
pub mod Unpacked
