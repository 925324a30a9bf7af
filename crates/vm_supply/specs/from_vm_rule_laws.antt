-- Definitions of vm_rule_laws that the crates above name through this one.
pub use Rattle.vm_step.specs.from_vm_rule_laws.Known
pub use Rattle.vm_step.specs.from_vm_rule_laws.Noted
pub use Rattle.vm_step.specs.from_vm_rule_laws.Standing
