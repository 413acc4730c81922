-- What a reader must believe: the calls by the setting's test, and what stays of settings with b up to 8.
pub mod Calls
pub mod Claims
