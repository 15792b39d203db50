pub mod Sums
pub mod Weighted
