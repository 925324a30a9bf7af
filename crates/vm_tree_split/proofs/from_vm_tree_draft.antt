-- Lemmas of vm_tree_draft that the crates above name through this one.
pub use Rattle.vm_tree_draft.proofs.Drafting
pub use Rattle.vm_tree_draft.proofs.Framing
pub use Rattle.vm_tree_draft.proofs.Numbering
pub use Rattle.vm_tree_draft.proofs.Rooting
pub use Rattle.vm_tree_draft.proofs.Splitting
