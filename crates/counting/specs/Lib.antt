-- The vocabulary that every other crate counts with.
pub mod Paper
pub mod Places
pub mod Digits
