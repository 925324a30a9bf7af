pub mod EmptyTree
pub mod KeyNodeTests
