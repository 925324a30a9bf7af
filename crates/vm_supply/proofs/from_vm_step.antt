-- Lemmas of vm_step that the crates above name through this one.
pub use Rattle.vm_step.proofs.After
pub use Rattle.vm_step.proofs.Alone
pub use Rattle.vm_step.proofs.Asides
pub use Rattle.vm_step.proofs.Device
pub use Rattle.vm_step.proofs.DeviceCalls
pub use Rattle.vm_step.proofs.Evidenced
pub use Rattle.vm_step.proofs.Filling
pub use Rattle.vm_step.proofs.Going
pub use Rattle.vm_step.proofs.Groups
pub use Rattle.vm_step.proofs.HeldFrames
pub use Rattle.vm_step.proofs.Leaves
pub use Rattle.vm_step.proofs.Masks
pub use Rattle.vm_step.proofs.MetPasses
pub use Rattle.vm_step.proofs.Releasing
pub use Rattle.vm_step.proofs.Saws
pub use Rattle.vm_step.proofs.Tables
pub use Rattle.vm_step.proofs.Together
pub use Rattle.vm_step.proofs.steps.Content as steps_Content
pub use Rattle.vm_step.proofs.steps.Leaving as steps_Leaving
pub use Rattle.vm_step.proofs.steps.Lock as steps_Lock
pub use Rattle.vm_step.proofs.steps.Look as steps_Look
pub use Rattle.vm_step.proofs.steps.Mapping as steps_Mapping
pub use Rattle.vm_step.proofs.steps.Owner as steps_Owner
pub use Rattle.vm_step.proofs.steps.Release as steps_Release
pub use Rattle.vm_step.proofs.steps.Share as steps_Share
pub use Rattle.vm_step.proofs.steps.Translate as steps_Translate
pub use Rattle.vm_step.proofs.steps.Unchanged as steps_Unchanged
pub use Rattle.vm_step.proofs.steps.WriteBack as steps_WriteBack
