-- Lemmas of vm_tree_split that the crates above name through this one.
pub use Rattle.vm_tree_join.proofs.from_vm_tree_split.Backing
pub use Rattle.vm_tree_join.proofs.from_vm_tree_split.Drafting
pub use Rattle.vm_tree_join.proofs.from_vm_tree_split.Framing
pub use Rattle.vm_tree_join.proofs.from_vm_tree_split.Numbering
pub use Rattle.vm_tree_join.proofs.from_vm_tree_split.Refusing
pub use Rattle.vm_tree_join.proofs.from_vm_tree_split.Roomy
pub use Rattle.vm_tree_join.proofs.from_vm_tree_split.Seeing
pub use Rattle.vm_tree_join.proofs.from_vm_tree_split.Settling
pub use Rattle.vm_tree_join.proofs.from_vm_tree_split.Trying
