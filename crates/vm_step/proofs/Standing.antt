-- A step of a pass that has begun: what it does to every table that meets the rule it does to every table that stands.
use mathlib.Core.Option as maybe
use Rattle.atomic_table.specs.Table.{carried_after, keeps as nothing, stepped}
use Rattle.vm_event.specs.Prelude.{GroupsFit, IsUngrouped}
use Rattle.vm_rule.specs.Prelude.{at_state, spread_table}
use Rattle.vm_rule.proofs.Spreading.{placed-ungrouped, spread-here, spread-set}
use Rattle.vm_step.proofs.{Fit.fit, Here.is-of}
use Rattle.vm_step.proofs.Prelude.{[], Allows, AllowsStep, ap, became, Bool, get_elem?, HasShape, index_of, inl}
use Rattle.vm_step.proofs.Prelude.{IsFit, IsPlacedAt, Kept, List, Me, Option, Origin, refl, Ruled, same-word}
use Rattle.vm_step.proofs.Prelude.{slice_index, slice_set, some, some-injective, Stands, Start, TableShape, WordPlace}
use Rattle.vm_step.proofs.Prelude.{Stored, subst, suc, sym, Table, told_of, true, true≢false, unborn, View, zero, ℕ}
use Rattle.vm_step.proofs.Prelude.{⊎_elim, ◌<◌, ◌∙◌, ◌∷◌, ◌≡◌}

-- the one view of a table before its first step is not live
pub born : {X : Type 0} (shape : TableShape) (id : ℕ) (v : View X) → get_elem? (unborn shape ∷ []) id ≡ some v
    → v.live ≡ true → ⊥
born shape zero v e live = true≢false (sym live ∙ ap (λ (y : View _). y.live) (sym (some-injective (unborn shape) v e)))
born shape (suc id) v e live = maybe.some-ne-none v (sym e)

-- the view put there
set-here : {V : Type 0} (l : List V) (i : ℕ) (v w : V) → get_elem? l i ≡ some v → get_elem? (slice_set l i w) i ≡ some w
set-here [] i v w e = absurd (maybe.some-ne-none v (sym e))
set-here (x ∷ xs) zero v w e = refl
set-here (x ∷ xs) (suc i) v w e = set-here xs i v w e

module _ {X B : Type 0} (stored : B → Stored) (keeps : Start → Kept X → Type 0)
    (tied : Start → ℕ → List ℕ → ℕ → List ℕ → Type 0) (shape : TableShape) (tells : Bool) where
  pub allows-any : (slots id : ℕ) (me : Me (Option B) (View X)) (i : ℕ) (f : ℕ → ℕ)
      (next : ℕ → Me (Option B) (View X) → Type 0) → me.0.live ≡ true
      → ((start : Origin) → HasShape shape start → GroupsFit start.pages start.groups → IsUngrouped start.groups i)
      → ((start : Origin) → HasShape shape start → Allows (Ruled stored keeps tied start tells) slots id me i f next)
      → Allows (Stands stored keeps tied shape tells) slots id me i f next
  allows-any slots id me i f next live none allows s stands many there below =
      let start : Origin = stands.start in
      let s' : Table (Option B) (View X) = spread_table start s in
      let alone : IsUngrouped start.groups i = none start stands.is_shape stands.fit in
      let here = spread-here start.pages start.groups stands.fit s.words i alone in
      ⊎_elim
      (λ r. let k = allows start stands.is_shape s' r many there (subst (λ n. n < 18446744073709551616) (sym here) below) in (
        k.0,
        k.1,
        k.2,
        record {
          start = start;
          is_shape = stands.is_shape;
          fit = stands.fit;
          rule = inl (subst (λ words. Ruled stored keeps tied start tells (record (stepped s i (f (slice_index s.words i)) id me.1 k.0 k.1) {
            words = words;
          }))
              (ap (λ n. slice_set s'.words i (f n)) here
              ∙ sym (spread-set start.pages start.groups stands.fit s.words i alone (f (slice_index s.words i)))) k.3);
        },
        subst (λ n. next n (k.0, carried_after me.1 k.1)) here k.4,
      ))
      (λ u. absurd (born shape id me.0 (subst (λ views. get_elem? views id ≡ some me.0) u.0 there) live))
      stands.rule

  -- so it is enough to say of every table that meets the rule which view the pass has after the step on a word, which
  -- becomes f of what it was
  module _ (slots id : ℕ) (v : View X) (i : ℕ) (at : WordPlace) (f g : ℕ → ℕ) (Told : ℕ → View X → View X → Type 0)
      (live : v.live ≡ true) (is : IsPlacedAt shape at i)
      (none : (start : Origin) → HasShape shape start → at_state at (λ p. IsUngrouped start.groups p)) (same : (n : ℕ) → f n ≡ g n) where
    -- the table meets the rule afterwards, with some view of the pass of which this is told
    abbrev pub Plays : Origin → Table (Option B) (View X) → ℕ → (ℕ → ℕ) → Type 0
    Plays start s j h = (w : View X) × Ruled stored keeps tied start tells
        (became stored keeps tied start tells s (slice_set s.words j (h (slice_index s.words j))) id w)
        × Told (slice_index s.words j) v w

    pub allows : ((n : ℕ) (w : View X) → Told n v w → IsFit w)
        → ((start : Origin) → HasShape shape start → (s : Table (Option B) (View X))
        → Ruled stored keeps tied start tells s → get_elem? s.views id ≡ some v
        → slice_index s.words (index_of start at) < 18446744073709551616 → Plays start s (index_of start at) g)
        → AllowsStep (Stands stored keeps tied shape tells) slots id v i f (told_of shape tells Told)
    allows fit plays =
        allows-any slots id (v, []) i f (λ n m. told_of shape tells Told n v m.0 × IsFit m.0 × (m.1 ≡ [])) live
        (λ start has fit'. subst (IsUngrouped start.groups) (is start has) (placed-ungrouped start fit' at (none start has)))
        (λ start has s r many there below.
        let k = subst (λ j. slice_index s.words j < 18446744073709551616 → Plays start s j f) (is start has)
        (λ low. let m = plays start has s r there low in (
          m.0,
          subst (λ x. Ruled stored keeps tied start tells
              (became stored keeps tied start tells s (slice_set s.words (index_of start at) x) id m.0))
              (sym (same (slice_index s.words (index_of start at)))) m.1,
          m.2,
        )) below in
        let t : Table (Option B) (View X) =
        became stored keeps tied start tells s (slice_set s.words i (f (slice_index s.words i))) id k.0 in
        let ends = fit (slice_index s.words i) k.0 k.2 in (
          k.0,
          nothing,
          tt,
          k.1,
          (
            (
              record {
                table = is-of stored keeps tied start tells t k.1 id k.0 (set-here s.views id v k.0 there) ends.live shape has;
                number = ends.number;
              },
              k.2,
            ),
            ends,
            refl,
          ),
        ))

  -- a load leaves all words
  pub allows-load : (slots id : ℕ) (v : View X) (i : ℕ) (at : WordPlace) (Told : ℕ → View X → View X → Type 0)
      → v.live ≡ true → IsPlacedAt shape at i
      → ((start : Origin) → HasShape shape start → at_state at (λ p. IsUngrouped start.groups p))
      → ((n : ℕ) (w : View X) → Told n v w → IsFit w)
      → ((start : Origin) → HasShape shape start → (s : Table (Option B) (View X))
      → Ruled stored keeps tied start tells s → get_elem? s.views id ≡ some v
      → (w : View X) × Ruled stored keeps tied start tells (became stored keeps tied start tells s s.words id w)
      × Told (slice_index s.words (index_of start at)) v w)
      → AllowsStep (Stands stored keeps tied shape tells) slots id v i (λ n. n) (told_of shape tells Told)
  allows-load slots id v i at Told live is none fit loads =
      allows slots id v i at (λ n. n) (λ n. n) Told live is none (λ _. refl) fit
      (λ start has s r there _.
      let k = loads start has s r there in (
        k.0,
        subst (λ words. Ruled stored keeps tied start tells (became stored keeps tied start tells s words id k.0))
            (sym (same-word s.words (index_of start at))) k.1,
        k.2,
      ))
