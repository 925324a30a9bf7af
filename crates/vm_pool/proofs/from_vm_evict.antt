-- Lemmas of vm_evict that the crates above name through this one.
pub use Rattle.vm_evict.proofs.Gathering
