pub mod Tables
pub mod Lists
pub mod Sizes
pub mod Rows
pub mod Refusals
