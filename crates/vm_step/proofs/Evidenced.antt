-- Evidence in a longer list of steps, the view after an exchange, and what a look counts of a page.
use Rattle.vm_step.proofs.Prelude.{[], ap, append-none, append_assoc, arith, Brings, cond-false, cond-true, Did}
use Rattle.vm_step.proofs.Prelude.{each-both, Entry, eq-eqb, eqb, first_or, HasGiven, HasWritten, if◌then◌else◌}
use Rattle.vm_step.proofs.Prelude.{IsHeld, LeavesOnly, List, nat_tests, ne_eqb, next_after, None, Option, option_or}
use Rattle.vm_step.proofs.Prelude.{Some, state_of, subst, sym, View, WordPlace, WritesNone, ℕ, ◌++◌, ◌<◌, ◌==◌, ◌∙◌}
use Rattle.vm_step.proofs.Prelude.{◌∷◌, ◌≡◌, ◌≢◌}

-- ---- evidence in a longer list of steps

pub given-front : (a b : List Did) (at : WordPlace) (word : ℕ) → HasGiven a at word → HasGiven (a ++ b) at word
given-front a b at word h = record {
  earlier = h.earlier;
  step = h.step;
  later = h.later ++ b;
  cut = ap (λ (t : List Did). t ++ b) h.cut ∙ append_assoc h.earlier (h.step ∷ h.later) b;
  gives = h.gives;
}

pub given-behind : (a b : List Did) (at : WordPlace) (word : ℕ) → HasGiven b at word → HasGiven (a ++ b) at word
given-behind a b at word h =
    record {
      earlier = a ++ h.earlier;
      step = h.step;
      later = h.later;
      cut = ap (λ (t : List Did). a ++ t) h.cut ∙ sym (append_assoc a h.earlier (h.step ∷ h.later));
      gives = h.gives;
    }

pub written-front : (a b : List Did) (at : WordPlace) (word : ℕ) → HasWritten a at word → HasWritten (a ++ b) at word
written-front a b at word h =
    record {
      earlier = h.earlier;
      step = h.step;
      later = h.later ++ b;
      cut = ap (λ (t : List Did). t ++ b) h.cut ∙ append_assoc h.earlier (h.step ∷ h.later) b;
      place = h.place;
      wrote = h.wrote;
    }

pub written-behind : (a b : List Did) (at : WordPlace) (word : ℕ) → HasWritten b at word → HasWritten (a ++ b) at word
written-behind a b at word h =
    record {
      earlier = a ++ h.earlier;
      step = h.step;
      later = h.later;
      cut = ap (λ (t : List Did). a ++ t) h.cut ∙ sym (append_assoc a h.earlier (h.step ∷ h.later));
      place = h.place;
      wrote = h.wrote;
    }

-- of steps one after another just those of the first and of the second left a word there
pub leaves-both : (at : WordPlace) (xs ys a b : List Did) → LeavesOnly at xs a → LeavesOnly at ys b
    → LeavesOnly at (xs ++ ys) (a ++ b)
leaves-both at [] [] a b f g = each-both (λ (d : Did). d.at ≡ at → d.wrote ≡ None) a b f g
leaves-both at [] (y ∷ ys) a b f g = (
  a ++ g.0,
  g.1,
  ap (λ (t : List Did). a ++ t) g.2 ∙ sym (append_assoc a g.0 (y ∷ g.1)),
  each-both (λ (d : Did). d.at ≡ at → d.wrote ≡ None) a g.0 f g.3,
  g.4,
)
leaves-both at (x ∷ xs) ys a b f g = (
  f.0,
  f.1 ++ b,
  ap (λ (t : List Did). t ++ b) f.2 ∙ append_assoc f.0 (x ∷ f.1) b,
  f.3,
  leaves-both at xs ys f.1 b
      f.4 g,
)

-- steps behind that left no word there
pub leaves-front : (at : WordPlace) (xs a b : List Did) → LeavesOnly at xs a → WritesNone at b
    → LeavesOnly at xs (a ++ b)
leaves-front at xs a b f g = subst (λ (ds : List Did). LeavesOnly at ds (a ++ b)) (append-none xs) (leaves-both at xs [] a b f g)

-- ---- what a view holds after a step

-- the next word is known on where it was another page
pub next-stays : (p : ℕ) (o : Option ℕ) → o ≢ Some p → next_after p o ≡ o
next-stays p o ne = grind (arith, nat_tests)

module _ {X : Type 0} where
  -- the view after an exchange that was lost, and after one that took
  pub lost-view : {es : List (Entry X)} → (did : Did) (expects found : ℕ) (v inner w : View X) → found ≢ expects
      → Brings did [] es v (if found == expects then inner else v) w → Brings did [] es v v w
  lost-view {es = es} did expects found v inner w ne b = subst (λ (x : View X). Brings did [] es v x w)
      (cond-false (eqb found expects) inner v (ne_eqb found expects ne)) b

  pub taken-view : {es : List (Entry X)} → (did : Did) (expects found : ℕ) (v inner w : View X) → found ≡ expects
      → Brings did [] es v (if found == expects then inner else v) w → Brings did [] es v inner w
  taken-view {es = es} did expects found v inner w e b = subst (λ (x : View X). Brings did [] es v x w)
      (cond-true (eqb found expects) inner v (eq-eqb found expects e)) b

-- ---- what a look counts of a page

-- the first such page, or this one
pub first-or : (first : Option ℕ) (p : ℕ) → option_or first (Some p) ≡ first_or first p
first-or first p = grind arith

-- a state of 8 bits that is none of three is that of a page that somebody has locked
pub held-state : (word : ℕ) → state_of word < 256 → state_of word ≢ 255 → state_of word ≢ 0 → state_of word ≢ 254
    → IsHeld word
held-state word l a b c = (omega (arith, b), omega (arith, l, a, c))
