pub mod Markets
pub mod Origins
pub mod Points
pub mod Taken
pub mod PointFacts
