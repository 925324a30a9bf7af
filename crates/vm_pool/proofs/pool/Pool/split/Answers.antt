use Rattle.vm_pool.proofs.Prelude.{map, PassesSplit, split-none, subst, sym, view}
use Rattle.vm_pool.proofs.pool.Pool.split.Goals as goal

pub returns-clause-split : goal.returns-clause-split
returns-clause-split g c =
    c.split_each.ensures.split (view c.args.pass.now)
    (subst (λ l. PassesSplit (view c.args.pass.now) (map (λ p. view p) l) (view c.catch_up.new.pass))
    (sym c.in_ok-room.ensures.items) (split-none _ _ c.catch_up.ensures.told))
