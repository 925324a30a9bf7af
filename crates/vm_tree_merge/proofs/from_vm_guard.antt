-- Lemmas of vm_guard that the crates above name through this one.
pub use Rattle.vm_tree_join.proofs.from_vm_guard.QuietSteps
