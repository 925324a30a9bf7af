-- The views of a store's pass and of a hand's, as hands are given and come back.
use Rattle.std.proofs.Common.{[], ⊎_elim, ◌++◌, ◌+◌, ◌-◌, ◌<◌, ◌∙◌, ◌∷◌, ◌≡◌, ap, append-nil, arith, Bool, length, List}
use Rattle.std.proofs.Common.{inl, inr, refl, slice_index, subst, sym, true, ℕ}
use Rattle.std.proofs.lemmas.Bool.{cases_eq, eq-eqb, ne_eqb}
use Rattle.vm_rule.specs.Prelude.{AreApart, CaughtUp, entries_by, has, Kept}
use Rattle.vm_rule.specs.Prelude.{PARTS, Start, times}
use Rattle.vm_step.specs.Prelude.{Did, HasStill, IsAsideOf, View}
use Rattle.vm_serve.specs.from_vm_pool.Parting.{Joins, Splits}
use Rattle.vm_serve.specs.from_vm_calls.Keeps.{KeepsPass}
use Rattle.vm_serve.proofs.from_vm_drive.Hiring.{holds-none, split-keeps}
use Rattle.vm_face.specs.{Given.IsBackIn, Homes.next_hand, Passes.hand_number, Passes.IsHandView, Passes.IsStoreView}
use Rattle.vm_face.proofs.Parts.{misses-less, misses-more}

here-among : (n : ℕ) (ns : List ℕ) → has n (n ∷ ns) ≡ true
here-among n ns = rw (eq-eqb n n refl) refl

later-among : (k n : ℕ) (ns : List ℕ) → has k ns ≡ true → has k (n ∷ ns) ≡ true
later-among k n ns t = ⊎_elim (λ e. rw (eq-eqb k n e) refl) (λ ne. rw (ne_eqb k n ne) t) (cases_eq k n)

module _ {X : Type 0} where
  caught-current : (v x : View X) → CaughtUp v x → x.current ≡ true
  caught-current v x c = ap (λ (y : View X). y.current) c.brings.view

  number-is : (v u w : View X) (s : Splits v u w) → hand_number u ≡ s.number
  number-is v u w s = ap (λ (y : View X). slice_index y.used 0) s.new

  pub number-given : (v u w : View X) → Splits v u w → hand_number u ≡ next_hand v
  number-given v u w s = number-is v u w s ∙ sym (ap (λ (l : List ℕ). slice_index l 0) s.given)

  -- the part that is given is one of the table's
  number-inside : (out ever : ℕ) (v u w : View X) → IsStoreView out ever v → (s : Splits v u w) → s.number < PARTS
  number-inside out ever v u w store s =
      store.inside s.number (subst (λ (l : List ℕ). has s.number l ≡ true) (sym s.given) (here-among s.number w.fresh))

  pub store-gives : (out ever : ℕ) (v u w : View X) → IsStoreView out ever v → Splits v u w → IsStoreView (out + 1) (ever + 1) w
  store-gives out ever v u w store s =
      let still : HasStill v w = split-keeps v u w s in record {
        holds = holds-none v w store.holds s.kept;
        current = ap (λ (y : View X). y.current) s.left ∙ caught-current v s.middle s.caught;
        missing = misses-more out v u w store.missing s;
        fresh = (let was = store.fresh in let fewer : length v.fresh ≡ length (s.number ∷ w.fresh) = ap length s.given in
            omega (arith, was, fewer));
        inside = λ k t. store.inside k (subst (λ (l : List ℕ). has k l ≡ true) (sym s.given) (later-among k s.number w.fresh t));
      }

  pub store-takes : (tells : Bool) (keeps : Start → Kept X → Type 0) (out ever : ℕ) (v u w : View X) → IsStoreView out ever v
      → IsHandView u → Joins tells keeps v u w → AreApart (w.used ++ w.fresh) → IsStoreView (out - 1) ever w
  store-takes tells keeps out ever v u w store hand j apart =
      let same : w.fresh ≡ v.fresh = j.fresh ∙ ap (λ (l : List ℕ). v.fresh ++ l) hand.parts.1 ∙ append-nil v.fresh in record {
        holds = holds-none v w store.holds j.kept;
        current = j.current;
        missing = misses-less out v u w store.missing hand apart j.parts;
        fresh = ap (λ (l : List ℕ). length l + ever + 1) same ∙ store.fresh;
        inside = λ k t. store.inside k (subst (λ (l : List ℕ). has k l ≡ true) same t);
      }

  pub is-back : (tells : Bool) (keeps : Start → Kept X → Type 0) (v u w : View X) → IsHandView u → Joins tells keeps v u w → IsBackIn v u w
  is-back tells keeps v u w hand j = record {
    heard = (j.kept.seen, j.heard);
    start = j.kept.start;
    used = j.used ∙ ap (λ (l : List ℕ). v.used ++ l) hand.parts.0;
    mine = j.mine;
    ours = j.ours;
    theirs = ap (λ (l : List ℕ). entries_by l w.seen) (sym hand.parts.0) ∙ j.theirs;
  }

  -- what keeps a pass keeps it a hand's
  pub hand-after : (t u : View X) → KeepsPass t u → IsHandView t → IsHandView u
  hand-after t u k h =
      let same : hand_number u ≡ hand_number t = ap (λ (l : List ℕ). slice_index l 0) k.parts.0 in record {
        holds = record {
          shares = λ p. (k.holds p).shares ∙ h.holds.shares p;
          exclusive = λ p. (k.holds p).exclusive ∙ h.holds.exclusive p;
          writing = λ p. (k.holds p).writing ∙ h.holds.writing p;
          out = k.out ∙ h.holds.out;
        };
        parts = (k.parts.0 ∙ h.parts.0 ∙ ap (λ n. n ∷ []) (sym same), k.parts.1 ∙ h.parts.1);
        inside = subst (λ n. n < PARTS) (sym same) h.inside;
      }

  -- a store's pass that did something aside, and holds no more than before, is one again
  pub store-aside : (touched : ℕ → Type 0) (done : List Did) (out ever : ℕ) (v w : View X) → IsAsideOf touched done v w → IsStoreView out ever v
      → IsStoreView out ever w
  store-aside touched done out ever v w aside store = record {
    holds = record {
      shares = λ p. (aside.holds p).shares ∙ store.holds.shares p;
      exclusive = λ p. (aside.holds p).exclusive ∙ store.holds.exclusive p;
      writing = λ p. (aside.holds p).writing ∙ store.holds.writing p;
      out = aside.out ∙ store.holds.out;
    };
    current = aside.alone.current store.current;
    missing = record {
      away = store.missing.away;
      few = store.missing.few;
      others = λ k l. ⊎_elim
          (λ some. inl (
          let used : times k w.used ≡ times k v.used = ap (times k) aside.parts.0 in
          let fresh : times k w.fresh ≡ times k v.fresh = ap (times k) aside.parts.1 in
          omega (arith, some, used, fresh)))
          (λ gone. inr gone) (store.missing.others k l);
    };
    fresh = ap (λ (l : List ℕ). length l + ever + 1) aside.parts.1 ∙ store.fresh;
    inside = λ k t. store.inside k (subst (λ (l : List ℕ). has k l ≡ true) aside.parts.1 t);
  }
