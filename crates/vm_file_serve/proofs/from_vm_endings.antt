-- Lemmas of vm_endings that the crates above name through this one.
pub use Rattle.vm_reading.proofs.from_vm_endings.Delivering
