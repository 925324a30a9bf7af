-- Definitions of vm_tree_rule that the crates above name through this one.
pub use Rattle.vm_drive.specs.from_vm_tree_rule.declared_fault_TreeFault
