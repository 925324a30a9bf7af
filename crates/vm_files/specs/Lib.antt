pub mod Building
pub mod Checking
