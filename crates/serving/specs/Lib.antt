pub mod Served
pub mod Turns
