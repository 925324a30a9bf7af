-- Definitions of vm_tree_read that the crates above name through this one.
pub use Rattle.vm_tree_read.specs.Reads
pub use Rattle.vm_tree_read.specs.Waiting
pub use Rattle.vm_tree_read.specs.declared.read.TryRead as declared_read_TryRead
pub use Rattle.vm_tree_read.specs.declared.read.TryRead.TheVariants as declared_read_TryRead_TheVariants
