-- Definitions of vm_calls that the crates above name through this one.
pub use Rattle.vm_serve.specs.from_vm_calls.Keeps
