-- Definitions of vm_serve that the crates above name through this one.
pub use Rattle.vm_serve.specs.Served
pub use Rattle.vm_serve.specs.Serving
pub use Rattle.vm_serve.specs.declared.serving.Served as declared_serving_Served
pub use Rattle.vm_serve.specs.declared.serving.ServedOn as declared_serving_ServedOn
