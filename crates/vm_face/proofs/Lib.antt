pub mod Begins
pub mod Calling
pub mod Ends
pub mod Homes
pub mod Parts
pub mod Views
