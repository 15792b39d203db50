pub mod Laws
pub mod Adding
pub mod Growing
