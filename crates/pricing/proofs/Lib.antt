pub mod Standing
pub mod Weightless
pub mod Deciding
