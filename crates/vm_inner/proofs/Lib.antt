pub mod Floor
mod NewRoots
pub mod InnerNodes
mod Siblings
