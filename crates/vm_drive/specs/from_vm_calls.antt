-- Definitions of vm_calls that the crates above name through this one.
pub use Rattle.vm_calls.specs.Called
pub use Rattle.vm_calls.specs.Calling
pub use Rattle.vm_calls.specs.Calls
pub use Rattle.vm_calls.specs.Causes
pub use Rattle.vm_calls.specs.Compact
pub use Rattle.vm_calls.specs.Keeps
pub use Rattle.vm_calls.specs.TreeCalls
pub use Rattle.vm_calls.specs.declared.compact.Replies as declared_compact_Replies
pub use Rattle.vm_calls.specs.declared.compact.Short as declared_compact_Short
pub use Rattle.vm_calls.specs.declared.compact.Short.TheVariants as declared_compact_Short_TheVariants
