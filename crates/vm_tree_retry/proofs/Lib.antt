pub mod Lasting
pub mod Deleting
pub mod from_vm_tree_split
pub mod from_vm_tree_round
