-- Lemmas of vm_endings that the crates above name through this one.
pub use Rattle.vm_endings.proofs.Delivering
pub use Rattle.vm_endings.proofs.FileWords
pub use Rattle.vm_endings.proofs.Telling
