pub mod Puts
pub mod Numerals
