-- Definitions of vm_tree_read that the crates above name through this one.
pub use Rattle.vm_tree_round.specs.from_vm_tree_read.Reads
pub use Rattle.vm_tree_round.specs.from_vm_tree_read.Waiting
pub use Rattle.vm_tree_round.specs.from_vm_tree_read.declared_read_TryRead
pub use Rattle.vm_tree_round.specs.from_vm_tree_read.declared_read_TryRead_TheVariants
