-- Definitions of vm_fault that the crates above name through this one.
pub use Rattle.vm_fault.specs.Fetches
