-- Lemmas of vm_step that the crates above name through this one.
pub use Rattle.vm_tree_merge.proofs.from_vm_step.Asides
pub use Rattle.vm_tree_merge.proofs.from_vm_step.Going
