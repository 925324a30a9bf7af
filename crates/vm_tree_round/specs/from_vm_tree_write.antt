-- Definitions of vm_tree_write that the crates above name through this one.
pub use Rattle.vm_tree_write.specs.Prelude
pub use Rattle.vm_tree_write.specs.Writes
pub use Rattle.vm_tree_write.specs.declared.write.TryWrite as declared_write_TryWrite
pub use Rattle.vm_tree_write.specs.declared.write.TryWrite.TheVariants as declared_write_TryWrite_TheVariants
