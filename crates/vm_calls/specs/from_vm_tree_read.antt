-- Definitions of vm_tree_read that the crates above name through this one.
pub use Rattle.vm_tree_range.specs.from_vm_tree_read.Reads
pub use Rattle.vm_tree_range.specs.from_vm_tree_read.Waiting
