pub mod Totals
pub mod Keeping
pub mod Shares
pub mod Ranges
pub mod Replies
