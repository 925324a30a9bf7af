-- Definitions of vm_guard that the crates above name through this one.
pub use Rattle.vm_tree_read.specs.from_vm_guard.Denied
pub use Rattle.vm_tree_read.specs.from_vm_guard.Fresh
pub use Rattle.vm_tree_read.specs.from_vm_guard.FreshPlaces
pub use Rattle.vm_tree_read.specs.from_vm_guard.Reused
pub use Rattle.vm_tree_read.specs.from_vm_guard.declared_deny_Deny_TheVariants
pub use Rattle.vm_tree_read.specs.from_vm_guard.declared_given_Fresh
pub use Rattle.vm_tree_read.specs.from_vm_guard.declared_given_Fresh_TheVariants
pub use Rattle.vm_tree_read.specs.from_vm_guard.declared_opt_OptGuard
