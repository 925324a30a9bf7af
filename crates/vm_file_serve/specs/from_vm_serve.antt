-- Definitions of vm_serve that the crates above name through this one.
pub use Rattle.vm_reading.specs.from_vm_serve.Served
pub use Rattle.vm_reading.specs.from_vm_serve.Serving
