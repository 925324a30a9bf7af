pub mod Dels
pub mod from_vm_tree_read
