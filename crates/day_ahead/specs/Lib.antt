pub mod Bounds
pub mod Prices
pub mod Facts
pub mod Exact
pub mod Moves
