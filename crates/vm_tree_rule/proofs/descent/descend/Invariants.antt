use Rattle.std.proofs.Common.{◌*◌, ◌+◌, ◌-◌, ◌≡◌, ◌≤◌, true, ℕ}
use Rattle.vm_step.specs.Prelude.{GoesOn, view}
use Rattle.vm_tree_rule.specs.{Few.LoadsHeight, Ways.StandsOnWay}
use Rattle.vm_tree_rule.specs.{Leaves.ReadsOn, Resident.IsReadNow, Resident.KnowsReadable, Standing.IsOpened, Standing.IsStand}
use Rattle.vm_tree_rule.proofs.descent.descend.Given as goal

-- the page on the way is read, and its level is the number of steps that are left
abbrev pub invariant-loop : goal.invariant-loop
invariant-loop g l = record {
  goes : GoesOn l.words g.B.Block.tells l.fn.pass l.pass;
  reads : ReadsOn (view l.fn.pass) (view l.pass);
  opened : IsOpened (view l.fn.pass) l.stand.guard.pid l.stand.guard.word l.stand.guard.frame (view l.pass);
  left : l.counter ≤ l.end;
  words : LoadsHeight (2 + g.K.Kind.bounds.child * l.counter) l.end (view l.fn.pass) (view l.pass);
  known : (shares : ℕ → ℕ) → g.B.Block.tells ≡ true → KnowsReadable shares (view l.fn.pass)
      → IsReadNow shares l.stand.guard.pid l.stand.guard.word (view l.pass);
  level : l.stand.level ≡ l.end - l.counter;
  stands : IsStand g.K.Kind.layout g.K.Kind.rank (g.K.Kind.rank l.key) l.stand (view l.pass);
  way : StandsOnWay g.K.Kind.layout g.K.Kind.rank (view l.fn.pass) (g.K.Kind.rank l.key) l.stand (view l.pass);
}
