pub mod Serving
pub mod from_vm_bytes_file
pub mod from_vm_endings
pub mod from_vm_pool
pub mod from_vm_serve
pub mod from_vm_bytes_serve
