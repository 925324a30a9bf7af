use Rattle.std.proofs.Common.{inl}
use Rattle.vm_tree_merge.proofs.beside.choose.Goals as goal

pub returns-in-None-clause-found : goal.returns-in-None-clause-found
returns-in-None-clause-found g c from to rises = inl (c.in-None.ensures from to rises)
