use Rattle.vm_guard.proofs.Prelude.{IsSeized, subst, view}
use Rattle.vm_guard.proofs.Seizing.{gives-evicted, gives-released}
use Rattle.vm_guard.proofs.fresh_pages.give_back.Goals as goal

pub returns-in-Some-clause-given : goal.returns-in-Some-clause-given
returns-in-Some-clause-given g c = gives-released _ _ _ _ _ c.requires.seized c.release_silently.ensures.told

pub returns-in-None-clause-given : goal.returns-in-None-clause-given
returns-in-None-clause-given g c =
    gives-evicted _ _ _ _ (subst (λ o. IsSeized c.args.page.pid c.args.page.version o (view c.args.pass.now))
    c.in-None.is c.requires.seized) c.release_evicted.ensures.told
