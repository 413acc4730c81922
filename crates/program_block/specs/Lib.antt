-- What the contracts of `program_block` cite.
pub mod Paper
pub mod Loans
