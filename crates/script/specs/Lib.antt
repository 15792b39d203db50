pub mod Commands
pub mod Faults
pub mod Numbers
pub mod NumberLaws
pub mod Readings
pub mod Verbs
pub mod Words
pub mod Written
