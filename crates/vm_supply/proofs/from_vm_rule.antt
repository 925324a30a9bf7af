-- Lemmas of vm_rule that the crates above name through this one.
pub use Rattle.vm_step.proofs.from_vm_rule.Bundled
pub use Rattle.vm_step.proofs.from_vm_rule.Entries
pub use Rattle.vm_step.proofs.from_vm_rule.Facts
pub use Rattle.vm_step.proofs.from_vm_rule.Heard
pub use Rattle.vm_step.proofs.from_vm_rule.WordFacts
