-- Definitions of vm_guard that the crates above name through this one.
pub use Rattle.vm_tree_read.specs.from_vm_guard.Denied
pub use Rattle.vm_tree_read.specs.from_vm_guard.Groups
pub use Rattle.vm_tree_read.specs.from_vm_guard.Guards
pub use Rattle.vm_tree_read.specs.from_vm_guard.Quiet
pub use Rattle.vm_tree_read.specs.from_vm_guard.Sure
pub use Rattle.vm_tree_read.specs.from_vm_guard.declared_deny_Deny
pub use Rattle.vm_tree_read.specs.from_vm_guard.declared_deny_Deny_TheVariants
pub use Rattle.vm_tree_read.specs.from_vm_guard.declared_exclusive_ExclusiveGuard
pub use Rattle.vm_tree_read.specs.from_vm_guard.declared_opt_OptGuard
