pub mod Naturals
pub mod Signs
