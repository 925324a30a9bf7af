use Rattle.std.proofs.Common.{◌+◌, ◌≡◌, ◌≢◌, ◌≤◌, true}
use Rattle.vm_step.specs.Prelude.{GoesOn, View, view}
use Rattle.vm_kind.specs.from_vm_guard.Guards.{IsReading}
use Rattle.vm_tree_rule.specs.{Leaves.ReadsOn, Resident.IsKnownNow, Standing.IsOpened, Standing.IsStand, Ways.StandsOnWay}
use Rattle.vm_tree_rule.proofs.above.under_node.Given as goal

-- the page on the way is read, and its level and the steps that were made are those of the first one
abbrev pub invariant-loop : goal.invariant-loop
invariant-loop g l = record {
  goes : GoesOn l.words g.B.Block.tells l.fn.pass l.pass;
  reads : ReadsOn (view l.fn.pass) (view l.pass);
  opened : (v : View _) → IsOpened v l.fn.stand.guard.pid l.fn.stand.guard.word l.fn.stand.guard.frame
      (view l.fn.pass) → IsOpened v l.node.guard.pid l.node.guard.word l.node.guard.frame (view l.pass);
  reading : IsReading l.node.guard.pid l.node.guard.word l.node.guard.frame (view l.pass);
  left : l.counter ≤ l.height;
  known : g.B.Block.tells ≡ true → IsKnownNow l.fn.stand.guard.pid l.fn.stand.guard.word (view l.fn.pass)
      → IsKnownNow l.node.guard.pid l.node.guard.word (view l.pass);
  level : l.node.level + l.counter ≡ l.height + 1;
  stands : IsStand g.K.Kind.layout g.K.Kind.rank (g.K.Kind.rank l.key) l.node (view l.pass);
  not_zero : l.node.guard.pid ≢ 0;
  way : (v : View _) → IsOpened v l.fn.stand.guard.pid l.fn.stand.guard.word l.fn.stand.guard.frame (view l.fn.pass)
      → StandsOnWay g.K.Kind.layout g.K.Kind.rank v (g.K.Kind.rank l.key) l.fn.stand (view l.fn.pass)
      → StandsOnWay g.K.Kind.layout g.K.Kind.rank v (g.K.Kind.rank l.key) l.node (view l.pass);
}
