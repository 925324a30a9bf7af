use Rattle.vm_clock.proofs.Prelude.{HoldsChosen, view, ◌%◌, ◌+◌, ◌<◌, ◌≡◌}
use Rattle.vm_supply.specs.from_vm_step.Prelude.{GoesOn}
use Rattle.vm_clock.proofs.Walking.{IsWalking}
use Rattle.vm_clock.proofs.candidates.Given as goal

-- k visits were made
abbrev pub invariant-loop-k : goal.invariant-loop-k
invariant-loop-k g l = record {
  goes : GoesOn l.words g.B.Block.tells l.fn.pass l.pass;
  place : 0 < l.words.frames → l.frame ≡ (l.drawn % l.words.frames + l.k) % l.words.frames;
  covers : HoldsChosen l.met l.chosen.list.items;
  walking : IsWalking l.want l.drawn l.k l.chosen.looks l.chosen.list.items (view l.fn.pass) (view l.pass);
}
