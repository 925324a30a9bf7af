pub mod Answers
pub mod Loads
