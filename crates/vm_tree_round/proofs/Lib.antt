pub mod Leaving
pub mod Deleting
pub mod from_vm_rule
pub mod from_vm_step
pub mod from_vm_tree_read
pub mod from_vm_tree_split
