-- Lemmas of vm_exmap that the crates above name through this one.
pub use Rattle.vm_tree_read.proofs.from_vm_exmap.Handing
