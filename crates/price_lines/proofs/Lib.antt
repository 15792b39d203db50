mod Lengths
mod Zones
mod Adding
mod Shown
