use Rattle.vm_evict.specs.declared.candidate.Phase.TheVariants as phases
use Rattle.vm_evict.specs.declared.candidate.Stage.TheVariants as stages
use Rattle.vm_evict.proofs.{Locking.locked-so, Locking.lost-so, Moving.gives-nothing, Prelude.refl, Prelude.view}
use Rattle.vm_evict.proofs.candidate.lock_clean.Goals as goal

pub returns-in-Lost-clause-moved : goal.returns-in-Lost-clause-moved
returns-in-Lost-clause-moved g c v done h =
    lost-so phases.Lock stages.Clean c.args.p c.args.word c.in-Lost.field-0 _ done v (view c.args.pass.now) _
    (view c.lock_exclusive.new.pass) h.waits (c.lock_exclusive.ensures.lost c.in-Lost.field-0 c.in-Lost.is)
    c.in-Lost.ensures.told.brings (c.in-Lost.field-0, refl) tt (gives-nothing refl refl refl) (λ k. k)

pub returns-in-Taken-clause-moved : goal.returns-in-Taken-clause-moved
returns-in-Taken-clause-moved g c v done h = locked-so g.U.Owner.tied c.args.p c.args.word c.requires.candidate.marked
    done v (view c.args.pass.now) (view c.lock_exclusive.new.pass) h c.in-Taken.ensures.told
