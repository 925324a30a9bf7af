-- Page numbers where no pass's change: what the passes have of them stays.
use Rattle.std.proofs.Common.{[], ◌++◌, ◌∙◌, ◌∷◌, ◌≡◌, ap, Bool, List, refl, slice_set, subst, suc, sym, zero, ℕ}
use Rattle.std.specs.Prelude.{map}
use lib.ListN.{get_elem?}
use mathlib.Core.Option as maybe
use mathlib.Core.Option.{some, some-injective}
use Rattle.vm_numbers.specs.Hands.{Hands, NumbersFit}
use Rattle.vm_rule.specs.declared.view.View.{View}
use Rattle.vm_rule.specs.Rule.{hands_of}

module _ {X : Type 0} where
  -- what the passes have, after one view changed, is what they had, with what that view has
  pub hands-set : (views : List (View X)) (id : ℕ) (w : View X) → map hands_of (slice_set views id w) ≡ slice_set
      (map hands_of views) id (hands_of w)
  hands-set [] id w = refl
  hands-set (x ∷ xs) zero w = refl
  hands-set (x ∷ xs) (suc id) w = ap (λ (l : List Hands). hands_of x ∷ l) (hands-set xs id w)

  pub hands-there : (views : List (View X)) (id : ℕ) (v : View X) → get_elem? views id ≡ some v
      → get_elem? (map hands_of views) id ≡ some (hands_of v)
  hands-there [] id v e = absurd (maybe.some-ne-none v (sym e))
  hands-there (x ∷ xs) zero v e = ap (λ (y : View X). some (hands_of y)) (some-injective x v e)
  hands-there (x ∷ xs) (suc id) v e = hands-there xs id v e

  -- a view that has of numbers what the old one had
  pub hands-still : (views : List (View X)) (id : ℕ) (v w : View X) → get_elem? views id ≡ some v
      → hands_of w ≡ hands_of v → map hands_of (slice_set views id w) ≡ map hands_of views
  hands-still [] id v w there e = refl
  hands-still (x ∷ xs) zero v w there e = ap (λ (h : Hands). h ∷ map hands_of xs) (e ∙ ap hands_of (sym (some-injective x v there)))
  hands-still (x ∷ xs) (suc id) v w there e = ap (λ (l : List Hands). hands_of x ∷ l) (hands-still xs id v w there e)

  pub hands-snoc : (views : List (View X)) (w : View X)
      → map hands_of (views ++ w ∷ []) ≡ map hands_of views ++ hands_of w ∷ []
  hands-snoc [] w = refl
  hands-snoc (x ∷ xs) w = ap (λ (l : List Hands). hands_of x ∷ l) (hands-snoc xs w)

-- the same by parts that are equal
pub numbers-as : {set set' : ℕ → Bool} {next next' : ℕ} {last last' logical logical' : ℕ → List ℕ}
    {hands hands' : List Hands} → set ≡ set' → next ≡ next' → last ≡ last' → logical ≡ logical' → hands ≡ hands'
    → NumbersFit set next last logical hands → NumbersFit set' next' last' logical' hands'
numbers-as {set = set} {set' = set'} {next = next} {next' = next'} {last = last} {last' = last'} {logical = logical}
    {logical' = logical'} {hands = hands} a b c d e fit =
    subst (NumbersFit set' next' last' logical') e
    (subst (λ l. NumbersFit set' next' last' l hands) d
    (subst (λ l. NumbersFit set' next' l logical hands) c
    (subst (λ n. NumbersFit set' n last logical hands) b
    (subst (λ s. NumbersFit s next last logical hands) a fit))))
