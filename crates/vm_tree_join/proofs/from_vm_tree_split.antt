-- Lemmas of vm_tree_split that the crates above name through this one.
pub use Rattle.vm_tree_split.proofs.Backing
pub use Rattle.vm_tree_split.proofs.from_vm_tree_draft.Drafting
pub use Rattle.vm_tree_split.proofs.from_vm_tree_draft.Framing
pub use Rattle.vm_tree_split.proofs.from_vm_tree_draft.Numbering
pub use Rattle.vm_tree_split.proofs.Refusing
pub use Rattle.vm_tree_split.proofs.Roomy
pub use Rattle.vm_tree_split.proofs.Seeing
pub use Rattle.vm_tree_split.proofs.Settling
pub use Rattle.vm_tree_split.proofs.from_vm_tree_draft.Splitting
pub use Rattle.vm_tree_split.proofs.Trying
