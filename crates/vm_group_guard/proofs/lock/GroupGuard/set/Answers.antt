-- The page is made dirty, and then the word is stored.
use Rattle.std.proofs.Common.{slice_index_or}
use Rattle.std.proofs.lemmas.Option.{slice_get-get_or}
use Rattle.vm_guard.proofs.GuardSteps.{drafts-of, holds-dirty, sets, still-holding}
use Rattle.vm_rule.specs.Prelude.{StoresTold}
use Rattle.vm_group_guard.proofs.Holding.{held-dirty, nowhere, stood-at}
use Rattle.vm_group_guard.proofs.Prelude.{inr, subst, sym, view, ◌+◌, ◌≡◌}
use Rattle.vm_group_guard.specs.{declared.lock.GroupGuard.GroupGuard, declared.lock.Standing.Standing}
use Rattle.vm_group_guard.specs.{Locking.AreHolding}
use Rattle.vm_group_guard.proofs.lock.GroupGuard.set.Goals as goal

pub store-requires-clause-legal : goal.store-requires-clause-legal
store-requires-clause-legal g c =
    let is = slice_get-get_or c.args.self.now.stands.items c.args.k nowhere c.requires.page in
    let s : Standing = slice_index_or c.args.self.now.stands.items c.args.k nowhere in
    rw c.as_slice.ensures.value
    (inr (
      c.args.self.now.head + c.args.k,
      drafts-of _ _ _ _ (holds-dirty _ _ _ _ _ _ (c.requires.holds c.args.k s is) (c.make_dirty.ensures.dirtied s is)),
    ))

pub returns-clause-set : goal.returns-clause-set
returns-clause-set g c s is =
    let at : slice_index_or c.as_slice.result.now c.args.k nowhere ≡ s =
    stood-at c.as_slice.result.now c.args.self.now.stands.items c.args.k s c.as_slice.ensures.value is in
    sets _ _ _ _ _ _ _ _ _ (c.requires.holds c.args.k s is) (c.make_dirty.ensures.dirtied s is)
    (subst (λ (x : Standing). StoresTold x.frame c.args.i c.args.w (view c.make_dirty.new.pass)
    (view c.store.new.pass)) at c.store.ensures.told)

pub returns-clause-holds : goal.returns-clause-holds
returns-clause-holds g c =
    let is = slice_get-get_or c.args.self.now.stands.items c.args.k nowhere c.requires.page in
    let s : Standing = slice_index_or c.args.self.now.stands.items c.args.k nowhere in
    let set = returns-clause-set g c s is in
    subst (λ (x : GroupGuard). AreHolding x.head x.version x.stands.items (view c.store.new.pass))
    (sym (c.make_dirty.ensures.guard s is))
    (held-dirty _ _ _ c.args.k s _ _ _ is set.elsewhere set.group.0
    (still-holding _ _ _ _ _ _ _ _ (c.requires.holds c.args.k s is) set) c.requires.holds)
