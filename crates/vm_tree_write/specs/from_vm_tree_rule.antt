-- Definitions of vm_tree_rule that the crates above name through this one.
pub use Rattle.vm_tree_merge.specs.from_vm_tree_rule.Leaves
pub use Rattle.vm_tree_merge.specs.from_vm_tree_rule.Resident
pub use Rattle.vm_tree_merge.specs.from_vm_tree_rule.Seeks
pub use Rattle.vm_tree_merge.specs.from_vm_tree_rule.Shown
pub use Rattle.vm_tree_merge.specs.from_vm_tree_rule.Standing
pub use Rattle.vm_tree_merge.specs.from_vm_tree_rule.Turns
pub use Rattle.vm_tree_merge.specs.from_vm_tree_rule.declared_fault_TreeFault
pub use Rattle.vm_tree_merge.specs.from_vm_tree_rule.declared_fault_TreeFault_TheVariants
