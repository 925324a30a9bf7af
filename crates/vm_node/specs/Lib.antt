pub mod Places
pub mod Shows
pub mod Loads
pub mod Edited
pub mod Halves
pub mod Sizes
pub mod Joined
