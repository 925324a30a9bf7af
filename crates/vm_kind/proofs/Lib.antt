mod WordJoins
pub mod from_vm_guard
