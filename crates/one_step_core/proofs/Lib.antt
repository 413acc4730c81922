pub mod Results
pub mod Votes
