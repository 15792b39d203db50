pub mod Hours
pub mod Promises
