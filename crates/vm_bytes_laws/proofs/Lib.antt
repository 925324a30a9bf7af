pub mod Keys
pub mod KeyHistories
pub mod KeyShown
pub mod Paid
