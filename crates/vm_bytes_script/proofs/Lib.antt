pub mod Keys
pub mod KeyLines
