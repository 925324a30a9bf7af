-- Lemmas of vm_laws_others that the crates above name through this one.
pub use Rattle.vm_laws_others.proofs.Laws
