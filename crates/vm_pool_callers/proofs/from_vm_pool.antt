-- Lemmas of vm_pool that the crates above name through this one.
pub use Rattle.vm_pool.proofs.FirstPass
pub use Rattle.vm_pool.proofs.Keeping
pub use Rattle.vm_pool.proofs.Knowing
