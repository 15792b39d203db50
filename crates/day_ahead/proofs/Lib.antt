pub mod Factors
pub mod Living
pub mod Congestion
pub mod Nearness
pub mod Moving
