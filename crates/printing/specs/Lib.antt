pub mod Wrote
pub mod Sheet
pub mod Laws
