-- A del leaves the node without the pair.
use Rattle.std.proofs.Common.{◌≡◌, ◌≢◌, ℕ, suc, ◌+◌, ◌-◌, ◌*◌, ◌<◌, ◌≤◌, ◌⊎◌, List, ◌++◌, length, get_or, take, drop}
use Rattle.std.proofs.Common.{min, None, sym, ap, ◌∙◌, subst, arith, inl, inr}
use Rattle.std.proofs.lemmas.Bool.{cases_lt}
use Rattle.std.proofs.lemmas.List.{take-take, drop-take}
use Rattle.std.proofs.Math.Seq.{take-add}
use Rattle.vm_map.specs.Map.{Pairs, lookup_at, del_pair}
use Rattle.vm_tree_model.specs.Layout.{IsClean}
use Rattle.vm_tree_model.specs.Fixed.{fixed, fixed_node, fixed_pairs, capacity, places}
use Rattle.vm_tree_model.proofs.FixedLaws.{form_tells}
use Rattle.vm_page.specs.Sizes.{IsSize}
use Rattle.vm_node.proofs.Sizes.{whole}
use Rattle.vm_tree_model.proofs.PairWords.{length-pairs_of, places_same}
use Rattle.vm_node.specs.Places.{index_at}
use Rattle.vm_tree_model.specs.Edits.{TakesPair}
use Rattle.vm_node.proofs.Indexes.{del-index, no_key-del}
use Rattle.vm_node.proofs.Puts.{node_with, clean_rest, clean_with}

-- the page after the pair at `at` left
pub record IsShiftedOut (z : ℕ) (old new : List ℕ) (at n : ℕ) : Type 0 where
  pub old_length : length old ≡ z
  pub new_length : length new ≡ z
  pub count : n ≡ min (get_or old 1 0) (capacity z)
  pub place : at < n
  pub fewer : get_or new 1 0 ≡ n - 1
  pub below : (k : ℕ) → k ≢ 1 → k < 8 + 2 * at → get_or new k 0 ≡ get_or old k 0
  pub moved : (k : ℕ) → 8 + 2 * at ≤ k → k < 6 + 2 * n → get_or new k 0 ≡ get_or old (k + 2) 0
  pub zero_above : (k : ℕ) → 6 + 2 * n ≤ k → k < 8 + 2 * n → get_or new k 0 ≡ 0
  pub rest : (k : ℕ) → 8 + 2 * n ≤ k → get_or new k 0 ≡ get_or old k 0

module _ (z : ℕ) (size_of : IsSize z) (old new : List ℕ) (at n key : ℕ) (s : IsShiftedOut z old new at n)
    (is : at ≡ index_at (fixed_pairs z old) key) where
  front : take at (places new) ≡ take at (places old)
  front = places_same z (capacity z) (whole z size_of) new old 0 0 at s.new_length s.old_length
      (omega (arith, s.place, s.count)) (omega (arith, s.place, s.count))
      (λ k lt. s.below (8 + k) (omega arith) (omega arith))

  back : take (n - suc at) (drop at (places new)) ≡ take (n - suc at) (drop (suc at) (places old))
  back = places_same z (capacity z) (whole z size_of) new old at (suc at) (n - suc at) s.new_length s.old_length
      (omega (arith, s.place, s.count)) (omega (arith, s.place, s.count))
      (λ k lt. s.moved (8 + 2 * at + k) (omega arith) (omega (arith, s.place)) ∙ ap (λ i. get_or old i 0) (omega arith))

  -- the first n - 1 places are what is left of the pairs
  left : take (n - 1) (places new) ≡ del_pair (fixed_pairs z old) key
  left =
      let count : at + (n - suc at) ≡ n - 1 = omega (arith, s.place) in
      let parts : take (n - 1) (places new) ≡ take at (places new) ++ take (n - suc at) (drop at (places new)) =
      subst (λ m. take m (places new) ≡ take at (places new) ++ take (n - suc at) (drop at (places new))) count
      (take-add at (n - suc at) (places new)) in
      let first : take at (fixed_pairs z old) ≡ take at (places old) =
      take-take at (min (get_or old 1 0) (capacity z)) (places old) (omega (arith, s.place, s.count)) in
      let parted : suc at + (n - suc at) ≡ min (get_or old 1 0) (capacity z) = omega (arith, s.place, s.count) in
      let second : drop (suc at) (fixed_pairs z old) ≡ take (n - suc at) (drop (suc at) (places old)) =
      subst (λ m. drop (suc at) (take m (places old)) ≡ take (n - suc at) (drop (suc at) (places old))) parted
      (drop-take (suc at) (n - suc at) (places old)) in
      let gone : take (index_at (fixed_pairs z old) key) (fixed_pairs z old) ++ drop
      (suc (index_at (fixed_pairs z old) key)) (fixed_pairs z old) ≡ del_pair (fixed_pairs z old) key =
      del-index (fixed_pairs z old) key
      (omega (arith, is, s.place, s.count, length-pairs_of z (capacity z) (whole z size_of) old s.old_length)) in
      let joined : take at (fixed_pairs z old) ++ drop (suc at) (fixed_pairs z old) ≡ del_pair (fixed_pairs z old)
      key = subst (λ m. take m (fixed_pairs z old) ++ drop (suc m) (fixed_pairs z old) ≡ del_pair
      (fixed_pairs z old) key) (sym is) gone in
      parts ∙ rw (front, back) (rw (← first, ← second) joined)

  del_pairs_are : fixed_pairs z new ≡ del_pair (fixed_pairs z old) key
  del_pairs_are = let least : min (n - 1) (capacity z) ≡ n - 1 = omega (arith, s.count) in rw (s.fewer, least) left

  pub del_takes : TakesPair (fixed z) old new key
  del_takes = record {
    node = node_with z _ _ _ tag header del_pairs_are;
    clean = λ clean. clean_with z _ _ clean (record {
      length = s.new_length;
      tag = tag;
      count = rw s.fewer (omega (arith, s.count));
      header = header;
      rest = λ i le. let le' = rw s.fewer at le in zero_at clean i (cases_lt i (8 + 2 * n)) (omega (arith, s.place));
    });
  }
    where
      tag : get_or new 0 0 ≡ get_or old 0 0
      tag = s.below 0 (omega arith) (omega arith)

      header : (i : ℕ) → 2 ≤ i → i < 8 → get_or new i 0 ≡ get_or old i 0
      header i ge lt = s.below i (omega arith) (omega arith)

      zero_at : IsClean (fixed z) old → (i : ℕ) → (i < 8 + 2 * n) ⊎ (8 + 2 * n ≤ i) → 6 + 2 * n ≤ i → get_or new i 0 ≡ 0
      zero_at clean i (inl lt) ge = s.zero_above i ge lt
      zero_at clean i (inr above) ge = s.rest i above ∙ clean_rest z old clean i (omega (arith, s.count, (form_tells z old clean).count))

-- no pair has the key
pub takes_none : (z : ℕ) (words : List ℕ) (key : ℕ) → lookup_at (fixed_pairs z words) key ≡ None → TakesPair (fixed z) words words key
takes_none z words key none = record {
  node = ap (λ (m : Pairs). record (fixed_node z words) { pairs = m }) (sym (no_key-del (fixed_pairs z words) key none));
  clean = λ clean. clean;
}
