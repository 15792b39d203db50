pub mod Limits
pub mod Grids
pub mod Tables
pub mod Countable
pub mod References
pub mod Keeping
pub mod Meanings
pub mod Laws
