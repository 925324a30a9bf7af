pub mod History
pub mod Keeps
pub mod May
pub mod Tied
pub mod Descent
pub mod Plain
