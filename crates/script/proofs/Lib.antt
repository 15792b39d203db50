mod Backs
mod Cuts
mod Integers
mod Lines
mod Spaces
