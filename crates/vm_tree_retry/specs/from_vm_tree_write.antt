-- Definitions of vm_tree_write that the crates above name through this one.
pub use Rattle.vm_tree_round.specs.from_vm_tree_write.Writes
pub use Rattle.vm_tree_round.specs.from_vm_tree_write.declared_write_TryWrite as declared_write_TryWrite
pub use Rattle.vm_tree_round.specs.from_vm_tree_write.declared_write_TryWrite_TheVariants as declared_write_TryWrite_TheVariants
