-- Lemmas of vm_calls that the crates above name through this one.
pub use Rattle.vm_serve.proofs.from_vm_calls.Lists
