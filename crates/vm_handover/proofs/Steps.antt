-- Each step of a place leaves it in order.
use Rattle.std.proofs.Common.{◌≡◌, ◌≢◌, ℕ, true, false, List, [], ◌∷◌, ◌++◌, length, length-set, get_or-set_same, slice_index, slice_set}
use Rattle.std.proofs.Common.{sym, refl, ap, ◌∙◌, subst, ⊎_elim, arith, Option, Some, None, true≢false}
use Rattle.std.proofs.lemmas.Option.{none-some}
use mathlib.Core.Logic.{dite}
use mathlib.Core.Option.{some, some-injective}
use native.Mathlib.Decide.{ℕ_discrete}
use lib.ListN.{get_elem?}
use Rattle.atomic_table.specs.Table.{Me, keeps, takes, gives, rest, Allows, Arrives}
use Rattle.atomic_table.proofs.Lists.{at_set, at_snoc, set_here}
use Rattle.vm_handover.specs.Places.{IsInOrder, made, opened, lifted}
use Rattle.vm_handover.specs.declared.place.Knows.{Knows}

-- the one word is what was written to it
word-is : (words : List ℕ) (n : ℕ) → length words ≡ 1 → slice_index (slice_set words 0 n) 0 ≡ n
word-is words n one = get_or-set_same words 0 n 0 (omega (arith, one))

-- an empty slot has no value
not-both : {T : Type 0} (value : T) (h : _) → h ≡ some (some None) → h ≡ some (some (Some value)) → ⊥
not-both value h e f = none-some value (some-injective None (Some value) (some-injective (some None) (some (Some value)) (sym e ∙ f)))

module _ {A : Type 0} where
  not-fresh : (w v : Knows A) → w.fresh ≡ false → w ≡ v → v.fresh ≡ true → ⊥
  not-fresh w v old e f = true≢false (sym f ∙ ap (λ (u : Knows A). u.fresh) (sym e) ∙ old)

  -- a seat that knows the place as just made is not the one that stepped
  still-fresh : (views : List (Knows A)) (id : ℕ) (w : Knows A) → w.fresh ≡ false → (i : ℕ) (v : Knows A)
      → get_elem? (slice_set views id w) i ≡ some v → v.fresh ≡ true → (i ≢ id) × (get_elem? views i ≡ some v)
  still-fresh views id w old i v e f = ⊎_elim (λ here. absurd (not-fresh w v old here.1 f)) (λ there. there) (at_set views id i w v e)

  -- nor is it the new one
  was-fresh : (views : List (Knows A)) (w : Knows A) → w.fresh ≡ false → (i : ℕ) (v : Knows A) → get_elem? (views ++ w ∷ []) i ≡ some v
      → v.fresh ≡ true → get_elem? views i ≡ some v
  was-fresh views w old i v e f = ⊎_elim (λ there. there) (λ last. absurd (not-fresh w v old last f)) (at_snoc views w v i e)

module _ {T A : Type 0} (kept : A → T → Type 0) (about : A) where
  opens-so : (slots id : ℕ) (b : A) → Allows (IsInOrder kept about) slots id (made b, []) 0 (λ n. n) (λ _. opened)
  opens-so slots id b s h long here wide = let first = h.fresh id (made b) here refl in let n = slice_index s.words 0 in
      let w : Knows A = record { about = b; fresh = false } in (
        w,
        takes 0 None,
        first.1,
        record {
          one = length-set s.words 0 n ∙ h.one;
          given = λ e. let value = h.given (sym (word-is s.words n h.one) ∙ e) in absurd (not-both value.0 _ first.1 value.1);
          fresh = λ i v e f. let there = still-fresh s.views id w refl i v e f in
              absurd (there.0 ((h.fresh i v there.1 f).0 ∙ sym first.0));
        },
        (refl, refl),
      )

  -- the first seat takes the slot, which is empty
  pub opens : (slots id : ℕ) (b : A) (me : Me (Option T) (Knows A)) → me ≡ (made b, [])
      → Allows (IsInOrder kept about) slots id me 0 (λ n. n) (λ _. opened)
  opens slots id b me at =
      subst (λ (m : Me (Option T) (Knows A)). Allows (IsInOrder kept about) slots id m 0 (λ n. n) (λ _. opened)) (sym at)
      (opens-so slots id b)

  lays-so : (w : Knows A) (value : T) (more : List (ℕ × Option T)) → w.fresh ≡ false → kept about value
      → Allows (IsInOrder kept about) 1 0 (w, (0, Some value) ∷ more) 0 (λ _. 1) (λ _ _. Unit {0})
  lays-so w value more old ok s h long here wide = (
    w,
    gives,
    tt,
    record {
      one = length-set s.words 0 1 ∙ h.one;
      given = λ _. (value, set_here s.homes 0 (some (Some value)) (omega (arith, long)), ok);
      fresh = λ i v e f. let there = still-fresh s.views 0 w old i v e f in absurd (there.0 (h.fresh i v there.1 f).0);
    },
    tt,
  )

  -- the seat that took it brings it home, with a value of which holds what the datum says
  pub lays : (slots id : ℕ) (before after : Me (Option T) (Knows A)) (value : T) → slots ≡ 1 → id ≡ 0 → opened before
      → after ≡ (before.0, (0, Some value) ∷ rest before.1) → kept about value
      → Allows (IsInOrder kept about) slots id after 0 (λ _. 1) (λ _ _. Unit {0})
  lays slots id before after value one first empty at ok =
      subst (λ (m : Me (Option T) (Knows A)). Allows (IsInOrder kept about) slots id m 0 (λ _. 1) (λ _ _. Unit {0})) (sym at)
      (subst (λ n. Allows (IsInOrder kept about) n id (before.0, (0, Some value) ∷ rest before.1) 0 (λ _. 1) (λ _ _. Unit {0})) (sym one)
      (subst (λ n. Allows (IsInOrder kept about) 1 n (before.0, (0, Some value) ∷ rest before.1) 0 (λ _. 1) (λ _ _. Unit {0})) (sym first)
      (lays-so before.0 value (rest before.1) empty.0 ok)))

  -- a new seat takes the slot with the value, where it was given
  pub lifts : (slots : ℕ) → Arrives (IsInOrder kept about) slots 0 (λ _. 0) (lifted kept (made about, []))
  lifts slots s h long wide = dite (ℕ_discrete n 1)
      (λ given. let value = h.given given in (
        w,
        takes 0 (Some value.0),
        value.1,
        record {
          one = length-set s.words 0 0 ∙ h.one;
          given = gone;
          fresh = λ i v e f. absurd (not-both value.0 _ (h.fresh i v (was-fresh s.views w refl i v e f) f).1 value.1);
        },
        λ _. (value.0, refl, value.2),
      ))
      (λ other. (
        w,
        keeps,
        tt,
        record {
          one = length-set s.words 0 0 ∙ h.one;
          given = gone;
          fresh = λ i v e f. h.fresh i v (was-fresh s.views w refl i v e f) f;
        },
        λ given. absurd (other given),
      ))
    where
      n : ℕ
      n = slice_index s.words 0

      w : Knows A
      w = record { about = about; fresh = false }

      gone : {X : Type 0} → slice_index (slice_set s.words 0 0) 0 ≡ 1 → X
      gone e = absurd (omega (arith, sym (word-is s.words 0 h.one) ∙ e))
