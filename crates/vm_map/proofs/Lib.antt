pub mod MapLemmas
pub mod Entries
pub mod FirstPairs
pub mod WindowLaws
pub mod RangeLaws
pub mod SwapLaws
