use Rattle.std.proofs.Common.{◌≡◌, None}
use Rattle.vm_step.specs.Prelude.{AreHeld, IsReady, view}
use Rattle.vm_drive_callers.proofs.calls.expect_lists.Given as goal

-- the pass is ready and at home
abbrev pub invariant-loop-calls : goal.invariant-loop-calls
invariant-loop-calls g l = record {
  next : (goal.iterator-loop-calls g).can_next l.calls-iterator;
  finite : (goal.iterator-loop-calls g).is_finite l.calls-iterator;
  ready : IsReady l.pool.words.table.shared.key g.B.Block.tells l.pool.words.table.shared.table_id l.pass;
  home : (view l.pass).out ≡ None;
  held : AreHeld l.iface.frames (view l.pass);
}
