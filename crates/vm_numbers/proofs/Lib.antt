pub mod Sums
pub mod Moves
pub mod Steps
pub mod Passes
