-- The calls by a matrix's verdict, and what stays.
pub mod Paper
