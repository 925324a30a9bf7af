-- Definitions of vm_guard that the crates above name through this one.
pub use Rattle.vm_tree_merge.specs.from_vm_guard.Denied
pub use Rattle.vm_tree_merge.specs.from_vm_guard.Guards
pub use Rattle.vm_tree_merge.specs.from_vm_guard.declared_deny_Deny_TheVariants
