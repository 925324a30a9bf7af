pub mod Alone
pub mod Page
pub mod State
pub mod Device
pub mod Frames
pub mod Spares
pub mod Laws
