-- Lemmas of vm_bytes_calls that the crates above name through this one.
pub use Rattle.vm_bytes_calls.proofs.Answering
