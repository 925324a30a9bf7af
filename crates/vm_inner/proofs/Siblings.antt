-- Two pairs of a node, one behind the other, as two neighbouring children.
use Rattle.std.proofs.Common.{◌≡◌, ◌≢◌, ℕ, zero, suc, ◌+◌, ◌-◌, ◌<◌, ◌≤◌, inl, inr, List, [], ◌∷◌, length, get_or}
use Rattle.std.proofs.Common.{min, eqb, true, false, Option, Some, refl, sym, ap, ◌∙◌, subst, arith}
use Rattle.std.proofs.lemmas.Bool.{cases_lt}
use Rattle.std.proofs.lemmas.Bool.Decides.{nat_tests}
use Rattle.std.specs.Option.{option_map}
use Rattle.vm_map.specs.Map.{Pairs, lookup_at, Rises}
use Rattle.vm_tree_model.specs.Layout.{Layout}
use Rattle.vm_tree_model.specs.Page.{pairs_of}
use Rattle.vm_tree_model.specs.Edits.{child_of}
use Rattle.vm_node.specs.Places.{IsBound}
use Rattle.vm_node.proofs.Bounds.{at_least, bound_place}
use Rattle.vm_inner.specs.Neighbours.{AreBeside, HasNoPair}
use Rattle.vm_inner.proofs.Floor.{floor_before, floor_none, next_behind, next_last}

-- among keys that rise each pair is found under its key
found_there : (m : Pairs) (low high i : ℕ) → Rises low high m → i < length m
    → lookup_at m (get_or m i (0, 0)).0 ≡ Some (get_or m i (0, 0)).1
found_there [] low high i r lt = absurd (omega (arith, lt))
found_there (e ∷ es) low high zero r lt = let same : eqb e.0 e.0 ≡ true = grind (arith, nat_tests) in rw same refl
found_there (e ∷ es) low high (suc i) r lt =
    let from : e.0 + 1 ≤ (get_or es i (0, 0)).0 = at_least es (e.0 + 1) high i r.2 (omega (arith, lt)) in
    let other : eqb (get_or es i (0, 0)).0 e.0 ≡ false = grind (arith, nat_tests, from) in
    rw other (found_there es (e.0 + 1) high i r.2 (omega (arith, lt)))

two_pairs : (m : Pairs) → length m ≡ 2 → m ≡ get_or m 0 (0, 0) ∷ get_or m 1 (0, 0) ∷ []
two_pairs [] two = absurd (omega (arith, two))
two_pairs (e ∷ []) two = absurd (omega (arith, two))
two_pairs (e ∷ f ∷ []) two = refl
two_pairs (e ∷ f ∷ g ∷ es) two = absurd (omega (arith, two))

module _ (L : Layout) (words : List ℕ) (key at : ℕ) (bound : IsBound (pairs_of L words) (key + 1) at) where
  -- where no pair has a key up to this one there is no child
  pub no_child : (low high : ℕ) → Rises low high (pairs_of L words) → at ≡ 0 → HasNoPair L words key
  no_child low high rises none =
      inr (ap (λ (o : Option (ℕ × ℕ)). option_map (λ (x : ℕ × ℕ). x.1) o)
      (floor_none (pairs_of L words) key (sym (bound_place (pairs_of L words) low high (key + 1) at rises bound)
      ∙ none)))

  -- the pair before the place, and the one there, or the two last ones
  module _ (first : ℕ) (some : at ≢ 0) (more : 2 ≤ length (pairs_of L words))
      (place : first + 1 ≡ min at (length (pairs_of L words) - 1)) (low high : ℕ)
      (rises : Rises low high (pairs_of L words)) where
    child_is : (i : ℕ) → i + 1 ≡ at → child_of L words key ≡ Some (get_or (pairs_of L words) i (0, 0)).1
    child_is i is =
        let stands : suc i ≡ at = omega (arith, is) in
        ap (λ (o : Option (ℕ × ℕ)). option_map (λ (x : ℕ × ℕ). x.1) o)
        (floor_before (pairs_of L words) key i
        (sym (bound_place (pairs_of L words) low high (key + 1) at rises bound) ∙ sym stands))

    there : first + 1 < length (pairs_of L words)
    there = omega (arith, more, place)

    pub are_beside : AreBeside L words key (get_or (pairs_of L words) first (0, 0)).0
        (get_or (pairs_of L words) first (0, 0)).1 (get_or (pairs_of L words) (first + 1) (0, 0)).0
        (get_or (pairs_of L words) (first + 1) (0, 0)).1
    are_beside = record {
      names = found_there (pairs_of L words) low high first rises (omega (arith, there));
      names_right = found_there (pairs_of L words) low high (first + 1) rises there;
      next = λ above. next_behind (pairs_of L words) low high above first rises there;
      among = elim (cases_lt at (length (pairs_of L words))) [
        | inl inside ↦ inl (child_is first (omega (arith, inside, place, more)))
        | inr past ↦
            let last : first + 1 + 1 ≡ length (pairs_of L words) = omega (arith, past, place, more) in
            inr (
              child_is (first + 1) (omega (arith, last, past, bound.inside)),
              λ above.
                  next_last (pairs_of L words) low high above (first + 1) rises last,
            )
      ];
      all = λ two. let zeroth : first ≡ 0 = omega (arith, two, place, some) in
          subst (λ (i : ℕ). pairs_of L words ≡ get_or (pairs_of L words) i (0, 0) ∷ get_or (pairs_of L words) (i + 1)
          (0, 0) ∷ []) (sym zeroth) (two_pairs (pairs_of L words) two);
    }
