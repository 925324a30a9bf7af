use Rattle.vm_guard.proofs.{Prelude.arith, Searching.search-more}
use Rattle.vm_step.proofs.Going.{goes-then}
use Rattle.vm_guard.proofs.free_pages.find_free.Goals as goal

pub loop-g-preserved : goal.loop-g-preserved
loop-g-preserved g c = record {
  goes = goes-then c.loop-g.invariant.goes c.pbload-word.ensures.goes;
  searching = search-more _ _ c.pbload-word.result _ _ _ c.loop-g.invariant.searching
      (omega (arith, c.if-n-bits.false, c.bits.ensures)) c.pbload-word.ensures.told;
}
