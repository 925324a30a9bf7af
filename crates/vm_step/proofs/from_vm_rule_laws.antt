-- Lemmas of vm_rule_laws that the crates above name through this one.
pub use Rattle.vm_rule_laws.proofs.Alone
pub use Rattle.vm_rule_laws.proofs.Begun
pub use Rattle.vm_rule_laws.proofs.Histories
pub use Rattle.vm_rule_laws.proofs.Knowing
pub use Rattle.vm_rule_laws.proofs.Noted
pub use Rattle.vm_rule_laws.proofs.Standing
