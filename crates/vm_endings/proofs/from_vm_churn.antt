-- Lemmas of vm_churn that the crates above name through this one.
pub use Rattle.vm_churn.proofs.Counting
pub use Rattle.vm_churn.proofs.Lists
pub use Rattle.vm_churn.proofs.Sums
pub use Rattle.vm_churn.proofs.Tallying
