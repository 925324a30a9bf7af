-- Definitions of vm_kind that the crates above name through this one.
pub use Rattle.vm_tree_join.specs.from_vm_kind.Room
