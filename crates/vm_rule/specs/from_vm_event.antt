-- Definitions of vm_event that the crates above name through this one.
pub use Rattle.vm_event.specs.Prelude
