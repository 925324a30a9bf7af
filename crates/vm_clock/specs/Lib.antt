pub mod Clock
pub mod Met
pub mod from_vm_rule_laws
pub mod from_vm_step
