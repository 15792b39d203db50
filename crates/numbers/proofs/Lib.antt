pub mod Integers
pub mod Floors
pub mod Halves
