-- Definitions of vm_tree_split that the crates above name through this one.
pub use Rattle.vm_tree_retry.specs.from_vm_tree_split.Splits
