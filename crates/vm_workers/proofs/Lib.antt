pub mod Staying
pub mod Counting
pub mod Putting
