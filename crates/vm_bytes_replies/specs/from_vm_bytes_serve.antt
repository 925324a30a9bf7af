-- Definitions of vm_bytes_serve that the crates above name through this one.
pub use Rattle.vm_bytes_serve.specs.KeyServing
