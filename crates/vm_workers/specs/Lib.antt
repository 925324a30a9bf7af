pub mod Works
pub mod Entries
pub mod Puts
