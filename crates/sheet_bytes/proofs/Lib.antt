pub mod Ranges
pub mod Maps
pub mod Faults
