-- Lemmas of vm_tree_rule that the crates above name through this one.
pub use Rattle.vm_tree_rule.proofs.Downward
pub use Rattle.vm_tree_rule.proofs.Entering
pub use Rattle.vm_tree_rule.proofs.Logged
pub use Rattle.vm_tree_rule.proofs.OnWay
pub use Rattle.vm_tree_rule.proofs.Onward
pub use Rattle.vm_tree_rule.proofs.Reaching
pub use Rattle.vm_tree_rule.proofs.Readings
pub use Rattle.vm_tree_rule.proofs.Seeking
pub use Rattle.vm_tree_rule.proofs.Showing
pub use Rattle.vm_tree_rule.proofs.Surely
pub use Rattle.vm_tree_rule.proofs.Whole
