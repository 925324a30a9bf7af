-- What the words of a page say that took over the pairs of the next one.
use Rattle.std.proofs.Common.{◌≡◌, ℕ, ◌+◌, ◌-◌, ◌*◌, ◌<◌, ◌≤◌, List, length, get_or, take, drop, min, ◌++◌, refl, sym}
use Rattle.std.proofs.Common.{ap, ◌∙◌, subst, arith, inl, inr}
use Rattle.std.proofs.lemmas.Bool.{cases_lt}
use Rattle.std.proofs.lemmas.Bool.Decides.{nat_tests}
use Rattle.std.proofs.lemmas.List.{get_or_past}
use Rattle.std.proofs.lemmas.List.FromFn.{length-map-range_with_len, get_or-map-range_with_len}
use Rattle.std.proofs.Math.Seq.{take-add}
use Rattle.vm_map.proofs.MapLemmas.{Rises-join}
use Rattle.vm_page.specs.Sizes.{IsSize}
use Rattle.vm_tree_model.specs.Fixed.{fixed, fixed_pairs, capacity, places}
use Rattle.vm_tree_model.specs.Layout.{Layout}
use Rattle.vm_tree_model.specs.Merges.{IsJoined}
use Rattle.vm_tree_model.specs.Node.{IsLeafNode}
use Rattle.vm_tree_model.specs.Page.{pairs_of, node_of, IsLeaf}
use Rattle.vm_tree_model.proofs.FixedLaws.{form_tells, form_from}
use Rattle.vm_tree_model.proofs.PairWords.{places_same}
use Rattle.vm_tree_model.proofs.WordTests.{zeros_past-from}
use Rattle.vm_node.specs.Joined.{read_count, word_joined, joined_word, joined_words}
use Rattle.vm_node.proofs.Sizes.{whole}
use Rattle.vm_node.proofs.SplitWords.{node_path}

-- word k of the joined page, by where it stands
module _ (left right : List ℕ) (first second k : ℕ) where
  head_is : k < 8 → (k ≡ 1 → ⊥) → (k ≡ 3 → ⊥) → (k ≡ 4 → ⊥) → word_joined left right first second k ≡ get_or left k 0
  head_is lt one three four = grind (arith, nat_tests, lt, one, three, four)

  left_is : 8 ≤ k → k < 8 + 2 * first → word_joined left right first second k ≡ get_or left k 0
  left_is ge lt = grind (arith, nat_tests, ge, lt)

  right_is : 8 + 2 * first ≤ k → k < 8 + 2 * (first + second) → word_joined left right first second k ≡ get_or right (k - 2 * first) 0
  right_is ge lt = grind (arith, nat_tests, ge, lt)

  zero_is : 8 + 2 * (first + second) ≤ k → word_joined left right first second k ≡ 0
  zero_is ge = grind (arith, nat_tests, ge)

-- a word that is made is read before it is written
pub join_reads : (now old right : List ℕ) (first second i : ℕ) → get_or now i 0 ≡ get_or old i 0
    → word_joined now right first second i ≡ word_joined old right first second i
join_reads now old right first second i same = rw same refl

module _ (z : ℕ) (size : IsSize z) (left right : List ℕ) (left_length : length left ≡ z) (right_length : length right ≡ z) where
  abbrev first : ℕ
  first = read_count z left

  abbrev second : ℕ
  second = read_count z right

  abbrev new : List ℕ
  new = joined_words z left right

  length-new : length new ≡ z
  length-new = length-map-range_with_len (λ i. joined_word z left right i) 0 z

  new-at : (i : ℕ) → i < z → get_or new i 0 ≡ joined_word z left right i
  new-at i lt = get_or-map-range_with_len (λ i. joined_word z left right i) 0 z i i 0 lt (omega arith)

  head : (k : ℕ) → k < 8 → (k ≡ 1 → ⊥) → (k ≡ 3 → ⊥) → (k ≡ 4 → ⊥) → get_or new k 0 ≡ get_or left k 0
  head k lt one three four = new-at k (omega (arith, lt, whole z size)) ∙ head_is left right first second k lt one three four

  new_zero : (k : ℕ) → 8 + 2 * (first + second) ≤ k → get_or new k 0 ≡ 0
  new_zero k ge = elim (cases_lt k z) [
    | inl lt ↦ new-at k lt ∙ zero_is left right first second k ge
    | inr beyond ↦ get_or_past new k 0 (omega (arith, length-new, beyond))
  ]

  module _ (fits : first + second ≤ capacity z) where
    count : get_or new 1 0 ≡ first + second
    count = new-at 1 (omega (arith, whole z size))

    least : min (get_or new 1 0) (capacity z) ≡ first + second
    least = omega (arith, count, fits)

    from_left : take first (places new) ≡ fixed_pairs z left
    from_left = places_same z (capacity z) (whole z size) new left 0 0 first length-new left_length
        (omega (arith, fits)) (omega (arith, fits))
        (λ k lt. new-at (8 + k) (omega (arith, lt, fits, whole z size)) ∙ left_is left right first second (8 + k)
        (omega arith) (omega (arith, lt)))

    from_right : take second (drop first (places new)) ≡ fixed_pairs z right
    from_right = places_same z (capacity z) (whole z size) new right first 0 second length-new right_length
        (omega (arith, fits)) (omega (arith, fits))
        (λ k lt. new-at (8 + 2 * first + k) (omega (arith, lt, fits, whole z size)) ∙ right_is left right first second
        (8 + 2 * first + k) (omega arith) (omega (arith, lt))
        ∙ ap (λ (i : ℕ). get_or right i 0) (back first k))
      where
        back : (n k : ℕ) → 8 + 2 * n + k - 2 * n ≡ 8 + k
        back n k = omega arith

    both_pairs : fixed_pairs z new ≡ fixed_pairs z left ++ fixed_pairs z right
    both_pairs = rw least (take-add first second (places new) ∙ ap (λ l. l ++ take second (drop first (places new)))
        from_left ∙ ap (λ l. fixed_pairs z left ++ l) from_right)

    pub joined_is : IsJoined (fixed z) left right new
    joined_is = record {
      node = node_path _ _ (head 0 (omega arith) (λ e. omega (arith, e)) (λ e. omega (arith, e)) (λ e. omega (arith, e)))
          (head 5 (omega arith) (λ e. omega (arith, e)) (λ e. omega (arith, e)) (λ e. omega (arith, e)))
          (head 2 (omega arith) (λ e. omega (arith, e)) (λ e. omega (arith, e)) (λ e. omega (arith, e)))
          (rw (new-at 3 (omega (arith, whole z size)), new-at 4 (omega (arith, whole z size))) refl) both_pairs;
      clean = λ left_clean right_clean. let f = form_tells z left left_clean in let g =
          form_tells z right right_clean in form_from z new (record {
            length = length-new;
            count = omega (arith, count, fits);
            fence = rw (new-at 3 (omega (arith, whole z size)), new-at 4 (omega (arith, whole z size))) g.fence;
            sixth = head 6 (omega arith) (λ e. omega (arith, e)) (λ e. omega (arith, e)) (λ e. omega (arith, e)) ∙ f.sixth;
            seventh = head 7 (omega arith) (λ e. omega (arith, e)) (λ e. omega (arith, e)) (λ e. omega (arith, e)) ∙ f.seventh;
            rest = zeros_past-from new (8 + 2 * get_or new 1 0) (λ i le. new_zero i (rw count at le));
          });
    }

-- two leaves beside each other make a leaf
pub joined_leaf : (L : Layout) (left right new : List ℕ) → IsJoined L left right new → IsLeaf L left → IsLeaf L right
    → (node_of L left).high ≡ (node_of L right).low
    → (node_of L left).low ≤ (node_of L left).high → (node_of L right).low ≤ (node_of L right).high → IsLeaf L new
joined_leaf L left right new joined leaf next meets from upto = record {
  clean = joined.clean leaf.clean next.clean;
  node = subst IsLeafNode (sym joined.node) (record {
    tag = leaf.node.tag;
    level = leaf.node.level;
    rises = Rises-join (pairs_of L left) (pairs_of L right) (node_of L left).low (node_of L left).high
        (node_of L right).high leaf.node.rises from
        (rw meets next.node.rises) (rw meets upto);
  });
}
