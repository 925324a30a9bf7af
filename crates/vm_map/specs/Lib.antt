pub mod Keys
pub mod Map
pub mod History
pub mod Windows
