-- What the contracts of `program_ends` cite.
pub mod Stages
pub mod Replies
