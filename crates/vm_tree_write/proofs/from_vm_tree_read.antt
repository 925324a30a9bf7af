-- Lemmas of vm_tree_read that the crates above name through this one.
pub use Rattle.vm_tree_merge.proofs.from_vm_tree_read.Answering
pub use Rattle.vm_tree_merge.proofs.from_vm_tree_read.Lasting
pub use Rattle.vm_tree_merge.proofs.from_vm_tree_read.Losing
pub use Rattle.vm_tree_merge.proofs.from_vm_tree_read.Rounds
