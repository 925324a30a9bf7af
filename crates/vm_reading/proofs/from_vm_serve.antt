-- Lemmas of vm_serve that the crates above name through this one.
pub use Rattle.vm_endings.proofs.from_vm_serve.Planned
pub use Rattle.vm_endings.proofs.from_vm_serve.Unplanned
