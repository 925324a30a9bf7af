pub mod Images
pub mod Rooms
pub mod Shown
pub mod Taking
