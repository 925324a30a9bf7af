use Rattle.vm_evict.proofs.Passing.{Passes}
use Rattle.vm_evict.proofs.Prelude.{length, MayBeginPhase, MayEnd, stage_at, view, ℕ, ◌<◌, ◌≡◌, ◌≤◌}
use Rattle.vm_supply.specs.from_vm_step.Prelude.{GoesOn}
use Rattle.vm_evict.proofs.batch.pass_over.Given as goal

-- the candidates below i have passed the phase
abbrev pub invariant-loop-i : goal.invariant-loop-i
invariant-loop-i g l = record {
  goes : GoesOn l.words g.B.Block.tells l.fn.pass l.pass;
  passed : Passes l.phase l.list l.fn.stages l.stages (view l.fn.pass) (view l.pass);
  long : length l.stages ≡ 64;
  front : (j : ℕ) → j < l.i → MayEnd l.phase (stage_at l.stages j);
  back : (j : ℕ) → l.i ≤ j → j < length l.list → MayBeginPhase l.phase (stage_at l.stages j);
}
