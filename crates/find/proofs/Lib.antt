pub mod Hashing
pub mod Replies
