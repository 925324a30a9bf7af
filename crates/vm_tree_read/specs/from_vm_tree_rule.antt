-- Definitions of vm_tree_rule that the crates above name through this one.
pub use Rattle.vm_tree_rule.specs.Above
pub use Rattle.vm_tree_rule.specs.Few
pub use Rattle.vm_tree_rule.specs.Leaves
pub use Rattle.vm_tree_rule.specs.Resident
pub use Rattle.vm_tree_rule.specs.Seeks
pub use Rattle.vm_tree_rule.specs.Shown
pub use Rattle.vm_tree_rule.specs.Standing
pub use Rattle.vm_tree_rule.specs.Turns
pub use Rattle.vm_tree_rule.specs.declared.above.Above as declared_above_Above
pub use Rattle.vm_tree_rule.specs.declared.above.Above.TheVariants as declared_above_Above_TheVariants
pub use Rattle.vm_tree_rule.specs.declared.above.Reached as declared_above_Reached
pub use Rattle.vm_tree_rule.specs.declared.fault.TreeFault as declared_fault_TreeFault
pub use Rattle.vm_tree_rule.specs.declared.fault.TreeFault.TheVariants as declared_fault_TreeFault_TheVariants
pub use Rattle.vm_tree_rule.specs.declared.turn.Turn as declared_turn_Turn
pub use Rattle.vm_tree_rule.specs.declared.turn.Turn.TheVariants as declared_turn_Turn_TheVariants
