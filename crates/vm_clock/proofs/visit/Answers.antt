-- What the look found, and the exchange, give each count.
use Rattle.vm_clock.specs.Clock.{Visits as visits}
use Rattle.vm_clock.proofs.Prelude.{[], ap, false, first-or, held-state, HoldsChosen, inl, inr, MARKED, refl}
use Rattle.vm_clock.proofs.Prelude.{state_of, subst, sym, true, UNLOCKED, ◌+◌, ◌<◌, ◌∙◌, ◌≡◌, ◌⊎◌}
use Rattle.vm_clock.proofs.Visiting.{by-look, by-mark, covers-more, fresh-word, looks-at, told-of}
use Rattle.vm_clock.proofs.visit.Goals as goal
use Rattle.vm_clock.proofs.visit.Goals.{else-state-ne-UNLOCKED-via-else-state-ne-UNLOCKED}
use Rattle.vm_clock.proofs.visit.Goals.{else-state-ne-UNLOCKED-via-then-state-ne-UNLOCKED+else-state-2}

pub returns-then-is_met-clause-visited : goal.returns-then-is_met-clause-visited
returns-then-is_met-clause-visited g c =
    let chosen = told-of c.args.p c.args.chosen.now.list.items c.as_slice.result.now c.is_met.result true
    c.as_slice.ensures.value c.is_met.ensures c.if-is_met.true in
    by-look _ _ _ _ _ c.look_silently-word.ensures.told _ _ _ _ (visits.again _ chosen refl refl refl)

pub returns-then-state-clause-visited : goal.returns-then-state-clause-visited
returns-then-state-clause-visited g c =
    let new = told-of c.args.p c.args.chosen.now.list.items c.as_slice.result.now c.is_met.result false
    c.as_slice.ensures.value c.is_met.ensures c.if-is_met.false in
    by-look _ _ _ _ _ c.look_silently-word.ensures.told _ _ _ _
    (visits.gone _ (looks-at _ _ _ [] new) (sym c.state-state.ensures ∙ c.if-state.true) refl refl)

pub returns-then-state-2-clause-visited : goal.returns-then-state-2-clause-visited
returns-then-state-2-clause-visited g c =
    let new = told-of c.args.p c.args.chosen.now.list.items c.as_slice.result.now c.is_met.result false
    c.as_slice.ensures.value c.is_met.ensures c.if-is_met.false in
    let held = held-state _ (subst (λ n. n < 256) c.state-state.ensures c.state-state.type_inv)
    (λ e. c.if-state.false (c.state-state.ensures ∙ e))
    (λ e. c.if-state-ne-UNLOCKED.true (c.state-state.ensures ∙ e))
    (λ e. c.if-state-2.true (c.state-state.ensures ∙ e)) in
    by-look _ _ _ _ _ c.look_silently-word.ensures.told _ _ _ _ (visits.held _ (looks-at _ _ _ [] new) held refl refl)

pub returns-then-version-eq-MAX_VERSION-clause-visited :
    goal.returns-then-version-eq-MAX_VERSION-clause-visited
returns-then-version-eq-MAX_VERSION-clause-visited g c =
    let new = told-of c.args.p c.args.chosen.now.list.items c.as_slice.result.now c.is_met.result false
    c.as_slice.ensures.value c.is_met.ensures c.if-is_met.false in
    let free : (state_of c.look_silently-word.result ≡ UNLOCKED) ⊎ (state_of c.look_silently-word.result ≡ MARKED) =
    elim c.else-state-ne-UNLOCKED.branch [
      | else-state-ne-UNLOCKED-via-then-state-ne-UNLOCKED+else-state-2 w ↦ inr (sym c.state-state.ensures ∙ w.if-state-2.false)
      | else-state-ne-UNLOCKED-via-else-state-ne-UNLOCKED w ↦ inl (sym c.state-state.ensures ∙ w.if-state-ne-UNLOCKED.false)
    ] in
    by-look _ _ _ _ _ c.look_silently-word.ensures.told _ _ _ _
    (visits.worn _ (looks-at _ _ _ [] new) free (sym c.version.ensures ∙ c.if-version-eq-MAX_VERSION.true)
    (ap (λ f. record c.args.chosen.now.looks {
      worn = c.args.chosen.now.looks.worn + 1;
      first_worn = f;
    }) (c.or-chosen.ensures ∙ first-or c.args.chosen.now.looks.first_worn c.args.p)) refl)

pub returns-then-state-3-clause-visited : goal.returns-then-state-3-clause-visited
returns-then-state-3-clause-visited g c =
    let new = told-of c.args.p c.args.chosen.now.list.items c.as_slice.result.now c.is_met.result false
    c.as_slice.ensures.value c.is_met.ensures c.if-is_met.false in
    let fresh = fresh-word _ (λ e. c.if-version-eq-MAX_VERSION.false (c.version.ensures ∙ e)) in
    by-look _ _ _ _ _ c.look_silently-word.ensures.told _ _ _ _
    (visits.found _ (looks-at _ _ _ [] new) (sym c.state-state.ensures ∙ c.if-state-3.true) fresh refl
    c.push.ensures.items)

pub returns-in-Taken-clause-visited : goal.returns-in-Taken-clause-visited
returns-in-Taken-clause-visited g c =
    let new = told-of c.args.p c.args.chosen.now.list.items c.as_slice.result.now c.is_met.result false
    c.as_slice.ensures.value c.is_met.ensures c.if-is_met.false in
    let fresh = fresh-word _ (λ e. c.if-version-eq-MAX_VERSION.false (c.version.ensures ∙ e)) in
    let unlocked : state_of c.look_silently-word.result ≡ UNLOCKED =
    elim c.else-state-ne-UNLOCKED.branch [
      | else-state-ne-UNLOCKED-via-then-state-ne-UNLOCKED+else-state-2 w ↦ absurd (c.if-state-3.false w.if-state-2.false)
      | else-state-ne-UNLOCKED-via-else-state-ne-UNLOCKED w ↦ sym c.state-state.ensures ∙ w.if-state-ne-UNLOCKED.false
    ] in
    by-mark _ _ _ _ _ c.look_silently-word.ensures.told _ _ _ _ c.in-Taken.ensures.told _ _
    (visits.marked _ (looks-at _ _ _ _ new) unlocked fresh refl refl)

pub returns-in-Lost-clause-visited : goal.returns-in-Lost-clause-visited
returns-in-Lost-clause-visited g c =
    let new = told-of c.args.p c.args.chosen.now.list.items c.as_slice.result.now c.is_met.result false
    c.as_slice.ensures.value c.is_met.ensures c.if-is_met.false in
    let fresh = fresh-word _ (λ e. c.if-version-eq-MAX_VERSION.false (c.version.ensures ∙ e)) in
    let unlocked : state_of c.look_silently-word.result ≡ UNLOCKED =
    elim c.else-state-ne-UNLOCKED.branch [
      | else-state-ne-UNLOCKED-via-then-state-ne-UNLOCKED+else-state-2 w ↦ absurd (c.if-state-3.false w.if-state-2.false)
      | else-state-ne-UNLOCKED-via-else-state-ne-UNLOCKED w ↦ sym c.state-state.ensures ∙ w.if-state-ne-UNLOCKED.false
    ] in
    let lost = c.in-Lost.ensures in
    by-mark _ _ _ _ _ c.look_silently-word.ensures.told _ _ _ _ lost.told _ _
    (visits.lost _ c.in-Lost.field-0 (lost.lost c.in-Lost.field-0 refl) (looks-at _ _ _ _ new) unlocked fresh refl
    refl)

pub returns-then-state-3-clause-covers : goal.returns-then-state-3-clause-covers
returns-then-state-3-clause-covers g c =
    subst (HoldsChosen c.note.new.met) (sym c.push.ensures.items)
    (covers-more _ _ _ (c.args.p, c.look_silently-word.result) c.note.ensures c.requires.covers)
