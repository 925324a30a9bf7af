-- Lemmas of vm_page that the crates above name through this one.
pub use Rattle.vm_page.proofs.Sizes
