-- Lemmas of vm_tree_rule that the crates above name through this one.
pub use Rattle.vm_tree_merge.proofs.from_vm_tree_rule.Entering
pub use Rattle.vm_tree_merge.proofs.from_vm_tree_rule.OnWay
pub use Rattle.vm_tree_merge.proofs.from_vm_tree_rule.Onward
pub use Rattle.vm_tree_merge.proofs.from_vm_tree_rule.Readings
pub use Rattle.vm_tree_merge.proofs.from_vm_tree_rule.Showing
pub use Rattle.vm_tree_merge.proofs.from_vm_tree_rule.Surely
