pub mod Load
pub mod Reply
pub mod Laws
