-- What a reader must believe: the calls by a matrix's verdict, and what stays of matrices of equal columns.
pub mod Calls
pub mod Claims
