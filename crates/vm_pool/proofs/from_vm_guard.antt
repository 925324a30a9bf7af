-- Lemmas of vm_guard that the crates above name through this one.
pub use Rattle.vm_guard.proofs.Amid
pub use Rattle.vm_guard.proofs.Sharing
