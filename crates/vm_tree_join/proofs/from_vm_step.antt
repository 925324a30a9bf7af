-- Lemmas of vm_step that the crates above name through this one.
pub use Rattle.vm_tree_split.proofs.from_vm_step.Alone
pub use Rattle.vm_tree_split.proofs.from_vm_step.Asides
pub use Rattle.vm_tree_split.proofs.from_vm_step.Evidenced
pub use Rattle.vm_tree_split.proofs.from_vm_step.Going
