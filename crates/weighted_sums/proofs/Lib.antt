pub mod Sums
pub mod Withins
pub mod Weighted
