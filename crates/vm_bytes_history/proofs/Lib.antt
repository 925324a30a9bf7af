pub mod Starts
pub mod Retelling
pub mod Hearing
pub mod from_vm_bytes_calls
pub mod from_vm_pool
