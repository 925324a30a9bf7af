use Rattle.vm_evict.proofs.Ended.{counts-fit, Reports, reports-more, reports-none}
use Rattle.vm_evict.proofs.Prelude.{arith, length, refl, subst, ℕ}
use Rattle.vm_evict.proofs.batch.report_of.Goals as goal

pub loop-i-init : goal.loop-i-init
loop-i-init c = reports-none c.args.list.now c.args.looks c.args.stages.now c.none-evicted.result
    c.none-evicted.ensures.report c.none-evicted.ensures.frames

pub add-requires-clause-room : goal.add-requires-clause-room
add-requires-clause-room c =
    (counts-fit c.loop-i.i _ c.args.list.now c.args.looks c.args.stages.now c.loop-i.evicted c.loop-i-test.true
    c.requires.few c.loop-i.invariant).0

pub add-requires-clause-counts : goal.add-requires-clause-counts
add-requires-clause-counts c =
    let fit = counts-fit c.loop-i.i _ c.args.list.now c.args.looks c.args.stages.now c.loop-i.evicted
    c.loop-i-test.true c.requires.few c.loop-i.invariant in
    (fit.1, fit.2, fit.3, fit.4)

pub loop-i-preserved : goal.loop-i-preserved
loop-i-preserved c = reports-more c.loop-i.i c.args.list.now c.args.looks c.args.stages.now c.loop-i.evicted
    c.add.new.self c.loop-i.invariant _ _ refl refl c.add.ensures.added

-- all of them
all : (c : goal.After-loop-i) → Reports (length c.args.list.now) c.args.list.now c.args.looks c.args.stages.now c.loop-i.evicted
all c = subst (λ (n : ℕ). Reports n c.args.list.now c.args.looks c.args.stages.now c.loop-i.evicted)
    (omega (arith, c.loop-i-test.false, c.loop-i.auto.i-end)) c.loop-i.invariant

pub returns-clause-counts : goal.returns-clause-counts
returns-clause-counts c = (all c).counts

pub returns-clause-frames : goal.returns-clause-frames
returns-clause-frames c = (all c).frames
