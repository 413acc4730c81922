pub mod Loans
pub mod Questions
pub mod Results
