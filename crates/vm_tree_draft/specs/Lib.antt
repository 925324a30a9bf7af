pub mod Drafts
pub mod PageNumbers
pub mod Splits
