-- The load found the page clean, or dirty in a frame: the write is made from there.
use Rattle.vm_evict.proofs.{Writing.ends-clean}
use Rattle.vm_evict.proofs.write.write_where_dirty.Goals as goal

pub returns-in_default-clause-written : goal.returns-in_default-clause-written
returns-in_default-clause-written g c = ends-clean c.args.p _ _ _ c.requires.legal c.tload.ensures.told c.in_default.ensures
