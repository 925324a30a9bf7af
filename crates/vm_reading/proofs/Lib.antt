pub mod Files
pub mod Found
pub mod ScriptCalls
pub mod from_vm_churn
pub mod from_vm_drive
pub mod from_vm_endings
pub mod from_vm_serve
