-- Lemmas of vm_step that the crates above name through this one.
pub use Rattle.vm_step.proofs.Asides
pub use Rattle.vm_step.proofs.Going
