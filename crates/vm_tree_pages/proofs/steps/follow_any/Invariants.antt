use Rattle.std.proofs.Common.{◌≡◌, None, true}
use Rattle.vm_step.specs.Prelude.{AreHeld, IsReady, view}
use Rattle.vm_tree_pages.proofs.steps.follow_any.Given as goal

-- the pass is ready and at home
abbrev pub invariant-loop-line : goal.invariant-loop-line
invariant-loop-line g l = record {
  ready : IsReady l.pool.words.table.shared.key true l.pool.words.table.shared.table_id l.pass;
  home : (view l.pass).out ≡ None;
  held : AreHeld l.iface.frames (view l.pass);
}
