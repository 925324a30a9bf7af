pub mod KeyHistory
pub mod Plain
