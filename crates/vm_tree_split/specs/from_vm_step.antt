-- Definitions of vm_step that the crates above name through this one.
pub use Rattle.vm_step.specs.Prelude
pub use Rattle.vm_step.specs.declared.saw.Saw as declared_saw_Saw
