-- Lemmas of vm_tree_rule that the crates above name through this one.
pub use Rattle.vm_tree_read.proofs.from_vm_tree_rule.Entering
pub use Rattle.vm_tree_read.proofs.from_vm_tree_rule.Readings
