use Rattle.vm_guard.proofs.Prelude.{view}
use Rattle.vm_step.specs.Prelude.{GoesOn}
use Rattle.vm_guard.proofs.Searching.{IsSearching}
use Rattle.vm_guard.proofs.free_pages.find_free.Given as goal

-- the words below g were passed by
abbrev pub invariant-loop-g : goal.invariant-loop-g
invariant-loop-g g l = record {
  goes : GoesOn l.words g.B.Block.tells l.fn.pass l.pass;
  searching : IsSearching l.n l.g (view l.fn.pass) (view l.pass);
}
