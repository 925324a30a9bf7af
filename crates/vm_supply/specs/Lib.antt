pub mod from_vm_rule
pub mod from_vm_rule_laws
pub mod from_vm_step
