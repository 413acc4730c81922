pub mod Floats
pub mod Nearest
pub mod Signs
pub mod Firsts
