-- Definitions of vm_serve that the crates above name through this one.
pub use Rattle.vm_endings.specs.from_vm_serve.Served
pub use Rattle.vm_endings.specs.from_vm_serve.Serving
pub use Rattle.vm_endings.specs.from_vm_serve.declared_serving_Served
pub use Rattle.vm_endings.specs.from_vm_serve.declared_serving_ServedOn
