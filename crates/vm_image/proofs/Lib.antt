pub mod ZeroWords
pub mod FilePages
pub mod NextPage
pub mod FreePages
pub mod FileSizes
mod NewBlocks
mod BlocksRead
