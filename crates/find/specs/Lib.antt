pub mod Hash
pub mod Reply
pub mod Laws
