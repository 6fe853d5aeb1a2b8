pub mod Lists
pub mod Replies
pub mod Quotas
