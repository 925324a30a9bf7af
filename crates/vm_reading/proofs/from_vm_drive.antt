-- Lemmas of vm_drive that the crates above name through this one.
pub use Rattle.vm_endings.proofs.from_vm_drive.Crews
