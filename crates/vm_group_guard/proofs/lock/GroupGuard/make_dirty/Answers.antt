-- A clean page is made dirty, and one that is dirty already is left so.
use Rattle.std.proofs.Common.{slice_index_or, slice_set}
use Rattle.std.specs.List.{refill}
use Rattle.vm_guard.proofs.GuardSteps.{dirties, was-dirty}
use Rattle.vm_rule.specs.Prelude.{DirtyTold}
use Rattle.vm_group_guard.proofs.Holding.{nowhere, set-back, set-same, stood-at}
use Rattle.vm_group_guard.proofs.Prelude.{ap, length, List, subst, sym, true, view, ◌+◌, ◌∙◌, ◌≡◌}
use Rattle.vm_group_guard.specs.declared.lock.Standing.{Standing}
use Rattle.vm_group_guard.proofs.lock.GroupGuard.make_dirty.Goals as goal

pub returns-then-not-dirty-clause-dirtied : goal.returns-then-not-dirty-clause-dirtied
returns-then-not-dirty-clause-dirtied g c s is =
    let at : slice_index_or c.as_slice.result.now c.args.k nowhere ≡ s =
    stood-at c.as_slice.result.now c.args.self.now.stands.items c.args.k s c.as_slice.ensures.value is in
    dirties _ _ _ _ _ _ (c.requires.holds c.args.k s is) (ap (λ (x : Standing). x.dirty) (sym at) ∙ c.if-not-dirty.true)
    (subst (λ (x : Standing). DirtyTold (c.args.self.now.head + c.args.k) x.frame (view c.args.pass.now)
    (view c.set_dirty.new.pass)) at c.set_dirty.ensures.told)

pub returns-then-not-dirty-clause-guard : goal.returns-then-not-dirty-clause-guard
returns-then-not-dirty-clause-guard g c s is =
    let items : List Standing = c.args.self.now.stands.items in
    let at : slice_index_or c.as_slice.result.now c.args.k nowhere ≡ s =
    stood-at c.as_slice.result.now items c.args.k s c.as_slice.ensures.value is in
    let back : refill (length items) items (slice_set c.as_mut_slice.result.now c.args.k (record {
      frame = (slice_index_or c.as_slice.result.now c.args.k nowhere).frame;
      dirty = true;
    })) ≡ slice_set items c.args.k (record s { dirty = true }) =
    (λ i. refill (length items) items (slice_set (c.as_mut_slice.ensures.value i) c.args.k (record {
      frame = (at i).frame;
      dirty = true;
    }))) ∙ set-back items c.args.k (record s { dirty = true }) in
    ap (λ (l : List Standing). record c.args.self.now { stands = record { items = l } }) back

pub returns-else-not-dirty-clause-dirtied : goal.returns-else-not-dirty-clause-dirtied
returns-else-not-dirty-clause-dirtied g c s is =
    let at : slice_index_or c.as_slice.result.now c.args.k nowhere ≡ s =
    stood-at c.as_slice.result.now c.args.self.now.stands.items c.args.k s c.as_slice.ensures.value is in
    was-dirty _ _ _ _ _ (c.requires.holds c.args.k s is)
    (ap (λ (x : Standing). x.dirty) (sym at) ∙ c.if-not-dirty.false)

pub returns-else-not-dirty-clause-guard : goal.returns-else-not-dirty-clause-guard
returns-else-not-dirty-clause-guard g c s is =
    let items : List Standing = c.args.self.now.stands.items in
    let at : slice_index_or c.as_slice.result.now c.args.k nowhere ≡ s =
    stood-at c.as_slice.result.now items c.args.k s c.as_slice.ensures.value is in
    let dirty : s.dirty ≡ true = ap (λ (x : Standing). x.dirty) (sym at) ∙ c.if-not-dirty.false in
    let same : items ≡ slice_set items c.args.k (record s { dirty = true }) =
    sym (set-same items c.args.k s is) ∙ (λ i. slice_set items c.args.k (record s { dirty = dirty i })) in
    ap (λ (l : List Standing). record c.args.self.now { stands = record { items = l } }) same
