pub mod Facts
pub mod Search
pub mod Changes
pub mod Shift
pub mod Arrays
pub mod Made
