pub mod Found
pub mod Neighbours
