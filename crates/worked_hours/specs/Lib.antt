pub mod Hours
pub mod Postings
pub mod Rows
pub mod WorkedHours
