pub mod File
pub mod Faults
pub mod Blocks
pub mod Reading
