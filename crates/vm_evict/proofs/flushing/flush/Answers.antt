-- Page after page gives each clause.
use Rattle.vm_evict.proofs.FlushPages.{flushed-more, flushed-none}
use Rattle.vm_evict.proofs.Prelude.{arith, IsFlushedTo, refl, subst, suc, sym, view, ◌+◌, ◌<◌, ◌∙◌, ◌≡◌}
use Rattle.vm_supply.proofs.from_vm_step.Going.{goes-then}
use Rattle.vm_evict.proofs.flushing.flush.Goals as goal

pub loop-p-init : goal.loop-p-init
loop-p-init g c = record { goes = record { same = (refl, refl); ready = c.requires.ready }; flushed = flushed-none (view c.args.pass.now) }

pub loop-p-preserved : goal.loop-p-preserved
loop-p-preserved g c =
    let pages : c.args.words.now.pages ≡ (view c.args.pass.now).start.pages = c.args.words.now.shape.0
    ∙ sym c.requires.ready.table.is_shape.pages in
    record {
      goes = goes-then c.loop-p.invariant.goes c.visit.ensures.goes;
      flushed = subst (λ n. IsFlushedTo n c.visit.new.flushed (view c.args.pass.now) (view c.visit.new.pass))
          (let next : suc c.loop-p.p ≡ c.loop-p.p + 1 = omega arith in next)
          (flushed-more _ _ _ _ _ _ (subst (λ n. c.loop-p.p < n) pages c.loop-p-test.true) c.loop-p.invariant.flushed
          c.visit.ensures.visited);
    }

pub returns-clause-flushed : goal.returns-clause-flushed
returns-clause-flushed g c =
    let pages : c.args.words.now.pages ≡ (view c.args.pass.now).start.pages = c.args.words.now.shape.0
    ∙ sym c.requires.ready.table.is_shape.pages in
    let all : c.loop-p.p ≡ c.args.words.now.pages = omega (arith, c.loop-p.auto.p-end, c.loop-p-test.false) in
    subst (λ n. IsFlushedTo n c.loop-p.flushed (view c.args.pass.now) (view c.loop-p.pass)) (all ∙ pages) c.loop-p.invariant.flushed
