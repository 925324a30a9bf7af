-- Lemmas of vm_pool that the crates above name through this one.
pub use Rattle.vm_calls.proofs.from_vm_pool.FirstPass
