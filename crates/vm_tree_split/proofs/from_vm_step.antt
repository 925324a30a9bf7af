-- Lemmas of vm_step that the crates above name through this one.
pub use Rattle.vm_step.proofs.Alone
pub use Rattle.vm_step.proofs.Asides
pub use Rattle.vm_step.proofs.Evidenced
pub use Rattle.vm_step.proofs.Going
pub use Rattle.vm_step.proofs.steps.Leaving as steps_Leaving
