pub mod Bundle
pub mod CatchUp
pub mod Pass
pub mod Raise
pub mod Block
