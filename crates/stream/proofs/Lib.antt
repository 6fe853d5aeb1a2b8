pub mod Turns
pub mod Passes
pub mod Samples
pub mod Texts
pub mod Meanings
