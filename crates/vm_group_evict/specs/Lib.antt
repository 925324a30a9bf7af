pub mod Leaving
pub mod Saving
pub mod Emptying
pub mod Locks
pub mod Ends
pub mod Groups
pub mod Room
