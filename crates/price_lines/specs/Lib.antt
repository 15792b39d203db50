pub mod Lines
pub mod Adding
pub mod Shown
