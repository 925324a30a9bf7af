-- Lemmas of vm_rule_laws that the crates above name through this one.
pub use Rattle.vm_step.proofs.from_vm_rule_laws.Alone
pub use Rattle.vm_step.proofs.from_vm_rule_laws.Begun
pub use Rattle.vm_step.proofs.from_vm_rule_laws.Histories
pub use Rattle.vm_step.proofs.from_vm_rule_laws.Knowing
pub use Rattle.vm_step.proofs.from_vm_rule_laws.Noted
pub use Rattle.vm_step.proofs.from_vm_rule_laws.Standing
