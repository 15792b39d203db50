pub mod Forms
pub mod Turns
pub mod RowTexts
pub mod Lexing
pub mod RoundTrip
pub mod FirstFault
pub mod Trip
