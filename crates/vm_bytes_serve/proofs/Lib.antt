pub mod KeyKind
pub mod Taken
pub mod from_vm_calls
pub mod from_vm_drive
