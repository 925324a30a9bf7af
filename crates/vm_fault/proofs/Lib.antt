pub mod Prelude
pub mod Fetching
pub mod Ending
