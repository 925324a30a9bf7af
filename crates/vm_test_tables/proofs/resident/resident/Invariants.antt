use Rattle.std.proofs.Common.{[], ◌≡◌, false, None, ℕ}
use Rattle.vm_rule.specs.Prelude.{seat_of}
use Rattle.vm_step.specs.Prelude.{IsReady, view}
use Rattle.vm_test_tables.proofs.resident.resident.Given as goal

-- the pass is ready, knows the same start, and holds, owes and writes back no page
abbrev pub invariant-loop-p : goal.invariant-loop-p
invariant-loop-p g l = record {
  ready : IsReady l.words.table.shared.key g.B.Block.tells l.words.table.shared.table_id l.pass;
  start : (view l.pass).start ≡ (view l.initial.pass).start;
  out : (view l.pass).out ≡ None;
  owed : (view l.pass).owed ≡ [];
  writing : (q : ℕ) → (seat_of (view l.pass) q).writing ≡ false;
}
