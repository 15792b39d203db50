pub mod Lines
pub mod Forms
pub mod Texts
pub mod Reading
pub mod Laws
