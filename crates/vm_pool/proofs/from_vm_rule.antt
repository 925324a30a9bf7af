-- Lemmas of vm_rule that the crates above name through this one.
pub use Rattle.vm_rule.proofs.Entries
pub use Rattle.vm_rule.proofs.Facts
