pub mod Rounds
pub mod from_vm_rule
pub mod from_vm_step
pub mod from_vm_tree_join
pub mod from_vm_tree_read
pub mod from_vm_tree_rule
pub mod from_vm_tree_split
pub mod from_vm_tree_write
