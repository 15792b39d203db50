pub mod Limits
pub mod Sound
pub mod Hour
pub mod Steps
pub mod Replays
pub mod Live
pub mod Laws
pub mod MarketNames
