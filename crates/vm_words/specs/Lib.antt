pub mod Forms
pub mod Apps
pub mod Values
pub mod Commands
