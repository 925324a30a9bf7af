pub mod Known
pub mod from_vm_fault
pub mod from_vm_pool
