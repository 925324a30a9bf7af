-- Definitions of vm_rule that the crates above name through this one.
pub use Rattle.vm_step.specs.from_vm_rule.Bundles
pub use Rattle.vm_step.specs.from_vm_rule.Prelude
pub use Rattle.vm_step.specs.from_vm_rule.declared_view_Held
pub use Rattle.vm_step.specs.from_vm_rule.declared_view_WordPlace
pub use Rattle.vm_step.specs.from_vm_rule.declared_view_WordPlace_TheVariants
