pub mod Delivering
pub mod FileWords
pub mod KeyFileBytes
pub mod Telling
pub mod from_vm_churn
pub mod from_vm_drive
pub mod from_vm_serve
