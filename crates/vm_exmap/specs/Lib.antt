pub mod Frames
pub mod Walks
pub mod Returns
pub mod Visits
