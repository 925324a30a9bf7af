-- Lemmas of vm_churn that the crates above name through this one.
pub use Rattle.vm_endings.proofs.from_vm_churn.Counting
pub use Rattle.vm_endings.proofs.from_vm_churn.Lists
pub use Rattle.vm_endings.proofs.from_vm_churn.Sums
pub use Rattle.vm_endings.proofs.from_vm_churn.Tallying
