-- Definitions of vm_tree_rule that the crates above name through this one.
pub use Rattle.vm_serve.specs.from_vm_tree_rule.declared_fault_TreeFault
pub use Rattle.vm_serve.specs.from_vm_tree_rule.declared_fault_TreeFault_TheVariants
