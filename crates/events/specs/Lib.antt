pub mod Events
pub mod Forecasts
pub mod Demand3
pub mod Laws
pub mod Told
