-- Lemmas of vm_exmap that the crates above name through this one.
pub use Rattle.vm_exmap.proofs.FrameMoves
pub use Rattle.vm_exmap.proofs.Handing
