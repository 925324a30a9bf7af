pub mod Prelude
mod Passing
mod Visiting
mod Walking
pub mod from_vm_rule_laws
pub mod from_vm_step
