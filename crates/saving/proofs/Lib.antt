pub mod Adding
pub mod Growing
pub mod Counting
pub mod Lengths
pub mod Reading
pub mod Tables
