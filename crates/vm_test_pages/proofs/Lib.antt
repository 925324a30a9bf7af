pub mod Used
pub mod Beginnings
mod FirstParts
pub mod Locking
