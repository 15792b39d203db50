pub mod Order
pub mod Rows
pub mod Entering
pub mod Running
pub mod Laws
