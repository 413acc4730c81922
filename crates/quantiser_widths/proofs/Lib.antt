pub mod Verdicts
pub mod Widths
pub mod Signs
