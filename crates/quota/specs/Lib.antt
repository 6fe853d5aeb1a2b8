pub mod Quota
pub mod Greedy
pub mod Laws
pub mod Cut
