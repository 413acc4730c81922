pub mod Turns
pub mod Pieces
pub mod Printed
pub mod LineRule
