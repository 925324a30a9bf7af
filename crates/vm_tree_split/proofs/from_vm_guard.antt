-- Lemmas of vm_guard that the crates above name through this one.
pub use Rattle.vm_tree_read.proofs.from_vm_guard.FreeBits
pub use Rattle.vm_tree_read.proofs.from_vm_guard.Groups
pub use Rattle.vm_tree_read.proofs.from_vm_guard.GuardSteps
pub use Rattle.vm_tree_read.proofs.from_vm_guard.QuietSteps
pub use Rattle.vm_tree_read.proofs.from_vm_guard.Reading
