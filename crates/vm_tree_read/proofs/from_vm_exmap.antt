-- Lemmas of vm_exmap that the crates above name through this one.
pub use Rattle.vm_pool.proofs.from_vm_exmap.FrameMoves
pub use Rattle.vm_pool.proofs.from_vm_exmap.Handing
