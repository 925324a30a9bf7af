-- Definitions of vm_tree_split that the crates above name through this one.
pub use Rattle.vm_tree_split.specs.from_vm_tree_draft.Drafts
pub use Rattle.vm_tree_split.specs.from_vm_tree_draft.PageNumbers
pub use Rattle.vm_tree_split.specs.Prepares
pub use Rattle.vm_tree_split.specs.from_vm_tree_draft.Splits
pub use Rattle.vm_tree_split.specs.Tries
pub use Rattle.vm_tree_split.specs.declared.tries.TrySplit.TheVariants as declared_tries_TrySplit_TheVariants
