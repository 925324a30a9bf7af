-- Lemmas of vm_drive that the crates above name through this one.
pub use Rattle.vm_drive.proofs.Crews
pub use Rattle.vm_drive.proofs.Hiring
