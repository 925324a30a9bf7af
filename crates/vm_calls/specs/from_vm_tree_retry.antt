-- Definitions of vm_tree_retry that the crates above name through this one.
pub use Rattle.vm_tree_retry.specs.Prelude
pub use Rattle.vm_tree_retry.specs.Waiting
