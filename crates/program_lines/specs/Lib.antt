-- What the contracts of `program_lines` cite.
pub mod Paper
pub mod Loans
