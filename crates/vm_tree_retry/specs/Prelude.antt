-- What the crates above cite of single tries that write, passed on from one place, so that they need not use those crates themselves.
pub use Rattle.vm_tree_round.specs.from_vm_tree_write.Prelude.{IsDamagedBeside, IsMergeDone}
pub use Rattle.vm_tree_round.specs.from_vm_tree_write.Writes.{HasKeyIn, HasValueIn, IsDelAlone, IsVain, IsWornLeaf, IsWriteDone, OnlyWrites}
