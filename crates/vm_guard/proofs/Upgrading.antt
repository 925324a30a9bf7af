-- An optimistic guard that becomes an exclusive one: what each answer proves.
use Rattle.vm_step.specs.Evidence.Begins.{asked}
use Rattle.vm_step.proofs.{steps.Leaving.own-self}
use Rattle.vm_guard.proofs.{Denials.denied-at-once, Expecting.expect-resident, Expecting.seize-same}
use Rattle.vm_guard.proofs.{Leaving.older-read, Lockings.locked-after, QuietSteps.lock-lost, Sure.lost-leaves}
use Rattle.vm_guard.proofs.{Unmarking.lost-unmarks, Unmarking.one-saw, Validating.left-since}
use Rattle.vm_guard.proofs.Prelude.{[], AgainOrWorn, ap, arith, At, cond-false, Deny, Did, did_exchange, eqb, guarded}
use Rattle.vm_guard.proofs.Prelude.{HasLeft, inl, inr, IsDenied, IsLocked, IsOlder, IsReading, IsSince, IsToExpect}
use Rattle.vm_guard.proofs.Prelude.{KeptWord, last_of, LeavesTable, List, LOCKED, locked_view, LockTold, LookTold}
use Rattle.vm_guard.proofs.Prelude.{lost-brings, Mapping, mapping_of, MAX_VERSION, ne_eqb, None, others-none, refl}
use Rattle.vm_guard.proofs.Prelude.{rules, SameOrUnlocked, seat_of, Some, Start, WordPlace, subst, sym}
use Rattle.vm_guard.proofs.Prelude.{TranslationTold, UNLOCKED, UnlockedExpected, version-within, version_of, View}
use Rattle.vm_guard.proofs.Prelude.{WhyAgain, word-state, word-version, word_of, ℕ, ⊎_elim, ◌<◌, ◌∙◌, ◌∷◌, ◌≡◌, ◌≢◌}
use Rattle.vm_guard.proofs.Prelude.{◌≤◌, ◌⊎◌}

-- the unlocked word at a version below the last may be expected
pub unlocked-word : (word : ℕ) → version_of word < MAX_VERSION → IsToExpect (word_of UNLOCKED (version_of word))
    (word_of UNLOCKED (version_of word))
unlocked-word word below =
    let bare = word-state UNLOCKED (version_of word) (version-within word) in
    let to = seize-same (word_of UNLOCKED (version_of word)) (inl bare)
    (λ e. let same : version_of word ≡ MAX_VERSION =
    sym (word-version UNLOCKED (version_of word) (version-within word)) ∙ e in omega (arith, below, same)) in
    expect-resident _ _ to (inl refl) (λ gone. omega (arith, bare, gone))

module _ {X : Type 0} (tied : Start → ℕ → List ℕ → ℕ → List ℕ → Type 0) (p word frame : ℕ) where
  -- the page is at no lower version than the guard
  not-lower : (found : ℕ) (v w : View X) → LookTold tied p None found v w → IsReading p word frame v
      ⊎ HasLeft p word v → version_of word ≤ version_of found
  not-lower found v w t may =
      ⊎_elim
      (λ r. let older : IsOlder found (Some (record {
        version = version_of word;
        frame = Some frame;
      })) = subst (IsOlder found) r.reading t.older in older.0)
      (λ h. let since : IsSince found (Some h.other) = left-since p word found v h t.since in
      let within : version_of h.other ≤ version_of found = since.0 in
      ⊎_elim (λ less. omega (arith, less, within)) (λ l. let same : version_of h.other ≡ version_of word = l.1 in
      omega (arith, same, within)) h.gone)
      may

  -- the guard is at the last version, so the page is
  pub worn : (found : ℕ) (v w : View X) → LookTold tied p None found v w → IsReading p word frame v ⊎ HasLeft p word v
      → version_of word ≡ MAX_VERSION → IsDenied AgainOrWorn (KeptWord word) UnlockedExpected p (Deny.Worn p) v w
  worn found v w t may last =
      let low : version_of word ≤ version_of found = not-lower found v w t may in
      let high : version_of found ≤ MAX_VERSION = version-within found in
      (denied-at-once tied AgainOrWorn UnlockedExpected p found (Deny.Worn p) v w t (refl, omega (arith, low, high, last)) tt).0

  -- another word was found than the one expected
  pub lost : (expects found : ℕ) (v w : View X) → LockTold tied p expects found v w → found ≢ expects → SameOrUnlocked word expects
      → IsDenied AgainOrWorn (KeptWord word) UnlockedExpected p (Deny.Again (record { at = At.Page p; first = expects; seen = found })) v w
  lost expects found v w t ne kept =
      let new : ℕ = word_of LOCKED (version_of expects) in
      let did : Did = did_exchange (WordPlace.State p) expects found new in
      let why : WhyAgain (At.Page p) expects found did = inr (inr record {
        gives = (refl, refl);
        expected = refl;
        other = ne;
        left = cond-false (eqb found expects) (Some new) None (ne_eqb found expects ne);
      }) in
      let quiet = lock-lost tied p expects found v w ne t in
      let saw = one-saw (KeptWord word) UnlockedExpected p expects found did (refl, refl)
      (⊎_elim (λ (same : expects ≡ word). guarded same refl) (λ other. asked word refl refl other refl) kept)
      why in
      search (
        rules,
        quiet,
        saw,
        lost-leaves p expects found new v w quiet ne,
        lost-unmarks p expects found new ne,
        ap (λ (x : View X). x.current) (lost-brings (locked_view p t.held (last_of w p).words v) ne t.brings).view,
      )

-- and no word was left
pub lost-word : {X : Type 0} {tied : Start → ℕ → List ℕ → ℕ → List ℕ → Type 0} {p expects found : ℕ} {v w : View X}
    → LockTold tied p expects found v w → found ≢ expects → LeavesTable v w
lost-word {tied = tied} {p = p} {expects = expects} {found = found} {v = v} {w = w} t ne =
    let new : ℕ = word_of LOCKED (version_of expects) in (
      did_exchange (WordPlace.State p) expects found new ∷ [],
      (lock-lost tied p expects found v w ne t).steady.log,
      (cond-false (eqb found expects) (Some new) None (ne_eqb found expects ne), tt),
    )

module _ {X : Type 0} (tied : Start → ℕ → List ℕ → ℕ → List ℕ → Type 0) (p expects found : ℕ) (m : Mapping) (v x w : View X) where
  -- the page is locked at the version expected, and stands where its translation word says
  pub upgraded : IsToExpect expects expects → LockTold tied p expects expects v x → TranslationTold p found x w
      → mapping_of found ≡ Some m → p < v.start.pages → IsLocked tied p m.frame (version_of expects) m.dirty v w
  upgraded to t load named page =
      locked-after expects to.version to.may_lock.version t load named (others-none v) (own-self v) (record {
        shares = refl;
        exclusive = refl;
        writing = refl;
      }) (λ _. refl) page
      (older-read expects (seat_of v p).reading t.older) (λ tells. t.validates tells refl) tt
