-- Definitions of vm_inner that the crates above name through this one.
pub use Rattle.vm_inner.specs.Found
pub use Rattle.vm_inner.specs.declared.children.Fenced as declared_children_Fenced
