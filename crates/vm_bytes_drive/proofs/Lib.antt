pub mod Nothing
pub mod from_vm_pool
pub mod from_vm_bytes_calls
