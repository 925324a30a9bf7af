pub mod Elsewhere
pub mod Events
pub mod Heads
pub mod EventKinds
