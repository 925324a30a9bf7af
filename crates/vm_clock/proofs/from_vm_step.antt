-- Lemmas of vm_step that the crates above name through this one.
pub use Rattle.vm_supply.proofs.from_vm_step.Alone
pub use Rattle.vm_supply.proofs.from_vm_step.Asides
pub use Rattle.vm_supply.proofs.from_vm_step.MetPasses
pub use Rattle.vm_supply.proofs.from_vm_step.Tables
pub use Rattle.vm_supply.proofs.from_vm_step.Together
pub use Rattle.vm_supply.proofs.steps.CatchUp as steps_CatchUp
pub use Rattle.vm_supply.proofs.from_vm_step.steps_Leaving
