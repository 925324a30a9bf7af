pub mod KeyTests
pub mod SlotLemmas
pub mod HeaderLemmas
pub mod ReadKeys
pub mod KeySearch
pub mod KeyFound
pub mod WindowSteps
