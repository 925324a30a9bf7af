pub mod Fill
pub mod Sizes
mod Rising
mod Runs
mod Above
mod Nodes
mod NextLevel
mod LevelTree
mod Climb
mod Leaves
mod Built
mod Samples
mod Powers
mod Period
mod Apart
mod Counting
mod Written
mod Stack
mod Sorted
mod Assembled
