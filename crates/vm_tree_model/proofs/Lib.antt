pub mod Levels
pub mod LeafLaw
pub mod MapOf
pub mod Laws
pub mod LeafPages
pub mod SplitLaw
pub mod DelLemmas
pub mod MergeLaw
pub mod CollapseLaw
pub mod MergePages
pub mod GrowLaw
pub mod SameTree
pub mod SplitPages
pub mod RootSplit
pub mod Load
pub mod NodeCounts
pub mod WordTests
pub mod Tests
mod Slots
mod Linked
mod Ordered
pub mod Height
mod Sound
pub mod Complete
pub mod Theorem
pub mod FixedLaws
pub mod PairWords
