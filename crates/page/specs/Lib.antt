pub mod Pages
pub mod Copies
