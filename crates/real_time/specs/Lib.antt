pub mod Bounds
pub mod Weights
pub mod Prices
pub mod Laws
