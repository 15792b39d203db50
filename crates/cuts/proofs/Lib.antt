pub mod Cutting
pub mod Taking
pub mod Locating
pub mod Plains
