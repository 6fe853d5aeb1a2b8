pub mod Cut
pub mod Step
pub mod Laws
pub mod Sizes
pub mod Given
