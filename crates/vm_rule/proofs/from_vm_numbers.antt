-- Lemmas of vm_numbers that the crates above name through this one.
pub use Rattle.vm_numbers.proofs.Steps
pub use Rattle.vm_numbers.proofs.Sums
