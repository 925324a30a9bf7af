pub mod Outcomes
pub mod KeyOutcomes
pub mod EarlierCauses
pub mod Churning
pub mod Running
