pub mod KeyServing
pub mod from_vm_bytes_calls
pub mod from_vm_bytes_drive
pub mod from_vm_bytes_history
pub mod from_vm_drive
pub mod from_vm_tree_rule
