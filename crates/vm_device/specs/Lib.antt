pub mod Devices
pub mod Held
pub mod Memory
pub mod Edge
pub mod Whole
