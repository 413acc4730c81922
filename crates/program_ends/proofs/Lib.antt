pub mod Stages
pub mod Replies
