-- Definitions of vm_step that the crates above name through this one.
pub use Rattle.vm_step.specs.Prelude
