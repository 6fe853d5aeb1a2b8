pub mod Rows
pub mod Checks
pub mod Outcomes
pub mod OneHost
pub mod Histories
