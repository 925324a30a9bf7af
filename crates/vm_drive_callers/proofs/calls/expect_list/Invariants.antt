use Rattle.std.proofs.Common.{◌≡◌, None}
use Rattle.vm_step.specs.Prelude.{AreHeld, IsReady, view}
use Rattle.vm_drive_callers.proofs.calls.expect_list.Given as goal

-- the pass is ready and at home
abbrev pub invariant-loop-call : goal.invariant-loop-call
invariant-loop-call g l = record {
  next : (goal.iterator-loop-call g).can_next l.call-iterator;
  finite : (goal.iterator-loop-call g).is_finite l.call-iterator;
  ready : IsReady l.pool.words.table.shared.key g.B.Block.tells l.pool.words.table.shared.table_id l.pass;
  home : (view l.pass).out ≡ None;
  held : AreHeld l.iface.frames (view l.pass);
}
