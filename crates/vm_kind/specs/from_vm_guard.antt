-- Definitions of vm_guard that the crates above name through this one.
pub use Rattle.vm_guard.specs.Denied
pub use Rattle.vm_guard.specs.Fresh
pub use Rattle.vm_guard.specs.Given
pub use Rattle.vm_guard.specs.Groups
pub use Rattle.vm_guard.specs.Guards
pub use Rattle.vm_guard.specs.PageWords
pub use Rattle.vm_guard.specs.Quiet
pub use Rattle.vm_guard.specs.Reused
pub use Rattle.vm_guard.specs.Spares
pub use Rattle.vm_guard.specs.Sure
pub use Rattle.vm_guard.specs.declared.deny.Deny as declared_deny_Deny
pub use Rattle.vm_guard.specs.declared.deny.Deny.TheVariants as declared_deny_Deny_TheVariants
pub use Rattle.vm_guard.specs.declared.exclusive.ExclusiveGuard as declared_exclusive_ExclusiveGuard
pub use Rattle.vm_guard.specs.declared.given.Fresh as declared_given_Fresh
pub use Rattle.vm_guard.specs.declared.given.Fresh.TheVariants as declared_given_Fresh_TheVariants
pub use Rattle.vm_guard.specs.declared.group.Group as declared_group_Group
pub use Rattle.vm_guard.specs.declared.opt.OptGuard as declared_opt_OptGuard
