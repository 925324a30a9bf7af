-- Definitions of vm_tree_draft that the crates above name through this one.
pub use Rattle.vm_tree_draft.specs.Drafts
pub use Rattle.vm_tree_draft.specs.PageNumbers
pub use Rattle.vm_tree_draft.specs.Splits
