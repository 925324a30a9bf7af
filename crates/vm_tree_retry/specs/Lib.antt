pub mod Prelude
pub mod Waiting
pub mod from_vm_tree_join
pub mod from_vm_tree_read
pub mod from_vm_tree_round
pub mod from_vm_tree_rule
pub mod from_vm_tree_split
pub mod from_vm_tree_write
