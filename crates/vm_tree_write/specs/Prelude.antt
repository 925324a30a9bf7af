-- What the crates above cite of merges, passed on from one place, so that they need not use the crate of merges itself.
pub use Rattle.vm_tree_merge.specs.{Beside.IsDamagedBeside, Beside.IsNeededBeside, Done.IsLockLost, Done.IsMergeDone}
