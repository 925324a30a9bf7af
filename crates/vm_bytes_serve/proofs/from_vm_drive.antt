-- Lemmas of vm_drive that the crates above name through this one.
pub use Rattle.vm_serve.proofs.from_vm_drive.Crews
