-- Lemmas of vm_tree_read that the crates above name through this one.
pub use Rattle.vm_tree_range.proofs.from_vm_tree_read.Losing
