pub mod Sizes
pub mod PlaceLemmas
pub mod Indexes
pub mod Bounds
pub mod Puts
pub mod Dels
pub mod Editing
pub mod Making
pub mod CutPairs
pub mod Leaves
mod WindowSteps
mod RangeSteps
pub mod Telling
pub mod ReadPairs
pub mod Searches
pub mod LeafWindows
pub mod SplitWords
pub mod Halving
pub mod JoinedPages
