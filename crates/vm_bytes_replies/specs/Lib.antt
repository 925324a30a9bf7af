pub mod KeyLines
pub mod from_vm_bytes_serve
pub mod from_vm_bytes_history
pub mod from_vm_bytes_drive
pub mod from_vm_bytes_calls
