pub mod Answering
pub mod Replying
pub mod Shortening
