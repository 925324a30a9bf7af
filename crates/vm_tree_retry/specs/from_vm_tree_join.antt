-- Definitions of vm_tree_join that the crates above name through this one.
pub use Rattle.vm_tree_round.specs.from_vm_tree_join.Made
