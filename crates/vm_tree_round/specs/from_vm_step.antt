-- Definitions of vm_step that the crates above name through this one.
pub use Rattle.vm_tree_write.specs.from_vm_step.Prelude
