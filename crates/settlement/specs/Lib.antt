pub mod Runs
pub mod Prices
pub mod Promise
