-- Each page's write leads on, and one that fails ends the call.
use Rattle.std.specs.Prelude.{Ok}
use Rattle.vm_evict.specs.Writes.{EndsWrite}
use Rattle.vm_group_evict.proofs.Prelude.{arith, refl, subst, sym, view, ◌+◌}
use Rattle.vm_group_evict.proofs.SavingPages.{first-clean, first-none, first-written, left-dirty}
use Rattle.vm_group_evict.specs.Saving.{SavesFirst}
use Rattle.vm_step.proofs.Going.{goes-then}
use Rattle.vm_group_evict.proofs.save.save_pages.Goals as goal
use Rattle.vm_group_evict.proofs.save.save_pages.Goals.{else-wrote, then-wrote}

pub loop-k-init : goal.loop-k-init
loop-k-init g c = record {
  goes = record { same = (refl, refl); ready = c.requires.ready };
  saves = first-none c.args.head c.args.size (view c.args.pass.now) c.requires.under;
}

pub write_where_dirty-requires-clause-legal : goal.write_where_dirty-requires-clause-legal
write_where_dirty-requires-clause-legal g c =
    (c.loop-k.invariant.saves.are.under (c.args.head + c.loop-k.k) (omega arith, omega (arith, c.loop-k-test.true))).0

pub returns-in-Err-clause-failed : goal.returns-in-Err-clause-failed
returns-in-Err-clause-failed g c =
    let s = c.loop-k.invariant.saves in
    left-dirty c.args.head c.args.size c.loop-k.k c.loop-k-test.true s.pages s.done (view c.args.pass.now)
    (view c.loop-k.pass)
    (view c.write_where_dirty.new.pass) s.are c.in-Err.count c.loop-k.written
    (c.in-Err.ensures.written) s.tally s.few s.notes

pub loop-k-preserved : goal.loop-k-preserved
loop-k-preserved g c =
    let s = c.loop-k.invariant.saves in
    record {
      goes = goes-then c.loop-k.invariant.goes c.write_where_dirty.ensures.goes;
      saves = elim c.if-wrote.branch [
        | then-wrote w ↦
            subst (λ n. SavesFirst c.args.head c.args.size (c.loop-k.k + 1) n (view c.args.pass.now)
            (view c.write_where_dirty.new.pass))
            (sym w.written-is)
            (first-written c.args.head c.args.size c.loop-k.k c.loop-k-test.true c.loop-k.written _
            (view c.loop-k.pass) _ s
            (subst (λ b. EndsWrite (c.args.head + c.loop-k.k) (view c.loop-k.pass) (view c.write_where_dirty.new.pass)
            (Ok b))
            w.if-wrote.true c.in-Ok.ensures.written))
        | else-wrote w ↦
            subst (λ n. SavesFirst c.args.head c.args.size (c.loop-k.k + 1) n (view c.args.pass.now)
            (view c.write_where_dirty.new.pass))
            (sym w.written-is)
            (first-clean c.args.head c.args.size c.loop-k.k c.loop-k-test.true c.loop-k.written _
            (view c.loop-k.pass) _ s
            (subst (λ b. EndsWrite (c.args.head + c.loop-k.k) (view c.loop-k.pass) (view c.write_where_dirty.new.pass)
            (Ok b))
            w.if-wrote.false c.in-Ok.ensures.written))
      ];
    }
