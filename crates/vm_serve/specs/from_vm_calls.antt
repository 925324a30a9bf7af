-- Definitions of vm_calls that the crates above name through this one.
pub use Rattle.vm_drive.specs.from_vm_calls.Calls
pub use Rattle.vm_drive.specs.from_vm_calls.Compact
pub use Rattle.vm_drive.specs.from_vm_calls.Keeps
pub use Rattle.vm_drive.specs.from_vm_calls.TreeCalls
pub use Rattle.vm_drive.specs.from_vm_calls.declared_compact_Replies
pub use Rattle.vm_drive.specs.from_vm_calls.declared_compact_Short
pub use Rattle.vm_drive.specs.from_vm_calls.declared_compact_Short_TheVariants
