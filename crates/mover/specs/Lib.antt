pub mod Mover
pub mod Laws
pub mod Pass
