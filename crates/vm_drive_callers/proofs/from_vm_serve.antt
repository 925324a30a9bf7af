-- Lemmas of vm_serve that the crates above name through this one.
pub use Rattle.vm_serve.proofs.Headline
