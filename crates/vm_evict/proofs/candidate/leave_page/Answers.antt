use Rattle.vm_evict.proofs.Dropping.{freed-so}
use Rattle.vm_evict.proofs.Prelude.{EvictTold, subst, view, ℕ}
use Rattle.vm_evict.proofs.candidate.leave_page.Goals as goal

pub returns-clause-moved : goal.returns-clause-moved
returns-clause-moved g c v done h =
    freed-so c.args.p c.args.word c.args.frame c.args.written c.requires.candidate.marked c.requires.candidate.below
    done v (view c.args.pass.now) h (view c.release_evicted.new.pass)
    (subst (λ (n : ℕ). EvictTold c.args.p n (view c.args.pass.now) (view c.release_evicted.new.pass))
    c.version.ensures c.release_evicted.ensures.told)
