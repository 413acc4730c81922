-- What a reader must believe: document 01's definitions and the statements of the theorems.
pub mod Sum
pub mod Search
pub mod Lists
pub mod Joined
pub mod Integers
