-- Definitions of vm_tree_split that the crates above name through this one.
pub use Rattle.vm_tree_write.specs.from_vm_tree_split.Prepares
pub use Rattle.vm_tree_write.specs.from_vm_tree_split.Splits
pub use Rattle.vm_tree_write.specs.from_vm_tree_split.Tries
pub use Rattle.vm_tree_write.specs.from_vm_tree_split.declared_tries_TrySplit_TheVariants
