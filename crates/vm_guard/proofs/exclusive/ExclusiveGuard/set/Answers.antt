-- The page is made dirty, and then the word is stored.
use Rattle.vm_guard.proofs.GuardSteps.{drafts-of, holds-dirty, sets, still-holding}
use Rattle.vm_guard.proofs.Prelude.{inr, StoresTold, subst, view, ◌<◌}
use Rattle.vm_guard.proofs.exclusive.ExclusiveGuard.set.Goals as goal

pub store-requires-clause-frame : goal.store-requires-clause-frame
store-requires-clause-frame g c =
    rw c.make_dirty.ensures.guard (
      subst (λ n. c.args.self.now.frame < n) c.requires.ready.table.is_shape.frames c.requires.holds.frame_is,
      c.requires.word,
    )

pub store-requires-clause-legal : goal.store-requires-clause-legal
store-requires-clause-legal g c =
    rw c.make_dirty.ensures.guard
    (inr (
      c.args.self.now.pid,
      drafts-of _ _ _ _ (holds-dirty _ _ _ _ _ _ c.requires.holds c.make_dirty.ensures.dirtied),
    ))

pub returns-clause-set : goal.returns-clause-set
returns-clause-set g c =
    sets _ _ _ _ _ _ _ _ _ c.requires.holds c.make_dirty.ensures.dirtied
    (subst (λ s. StoresTold s.frame c.args.i c.args.w (view c.make_dirty.new.pass) (view c.store.new.pass))
    c.make_dirty.ensures.guard c.store.ensures.told)

pub returns-clause-holds : goal.returns-clause-holds
returns-clause-holds g c = still-holding _ _ _ _ _ _ _ _ c.requires.holds (returns-clause-set g c)
