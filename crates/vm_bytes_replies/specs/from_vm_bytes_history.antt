-- Definitions of vm_bytes_history that the crates above name through this one.
pub use Rattle.vm_bytes_serve.specs.from_vm_bytes_history.Heard
