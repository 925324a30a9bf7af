pub mod Bounds
pub mod Room
pub mod WordRoom
pub mod Joins
pub mod from_vm_guard
pub mod from_vm_inner
