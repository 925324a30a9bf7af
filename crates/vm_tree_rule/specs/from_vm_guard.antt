-- Definitions of vm_guard that the crates above name through this one.
pub use Rattle.vm_kind.specs.from_vm_guard.Given
pub use Rattle.vm_kind.specs.from_vm_guard.Groups
pub use Rattle.vm_kind.specs.from_vm_guard.Spares
pub use Rattle.vm_kind.specs.from_vm_guard.declared_exclusive_ExclusiveGuard
pub use Rattle.vm_kind.specs.from_vm_guard.declared_group_Group
