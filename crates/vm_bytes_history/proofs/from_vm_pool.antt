-- Lemmas of vm_pool that the crates above name through this one.
pub use Rattle.vm_bytes_drive.proofs.from_vm_pool.FirstPass
