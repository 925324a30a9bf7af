pub mod Drafts
pub mod Edited
