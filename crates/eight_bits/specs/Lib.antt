-- The calls by the setting's test, and what stays.
pub mod Paper
