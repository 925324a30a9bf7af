-- Lemmas of vm_tree_split that the crates above name through this one.
pub use Rattle.vm_tree_write.proofs.from_vm_tree_split.Framing
pub use Rattle.vm_tree_write.proofs.from_vm_tree_split.Roomy
pub use Rattle.vm_tree_write.proofs.from_vm_tree_split.Seeing
