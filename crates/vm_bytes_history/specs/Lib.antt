pub mod Heard
pub mod from_vm_bytes_calls
pub mod from_vm_bytes_drive
