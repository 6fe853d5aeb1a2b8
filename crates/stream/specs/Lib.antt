pub mod Steps
pub mod Passing
pub mod Text
pub mod Meaning
pub mod Samples
pub mod Laws
