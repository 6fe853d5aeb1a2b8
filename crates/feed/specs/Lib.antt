pub mod Feed
pub mod Passing
pub mod Laws
