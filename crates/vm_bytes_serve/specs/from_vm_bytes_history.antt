-- Definitions of vm_bytes_history that the crates above name through this one.
pub use Rattle.vm_bytes_history.specs.Heard
