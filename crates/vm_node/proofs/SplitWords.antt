-- What the words of a split node say.
use Rattle.std.proofs.Common.{◌≡◌, ℕ, zero, suc, ◌+◌, ◌-◌, ◌*◌, ◌^◌, ◌<◌, ◌≤◌, inl, List, length, get_or, take, drop}
use Rattle.std.proofs.Common.{min, refl, sym, ap, ◌∙◌, arith, length-drop, replicate}
use Rattle.std.proofs.lemmas.List.{take_all}
use Rattle.vm_map.specs.Map.{Pairs}
use Rattle.vm_tree_model.specs.Node.{Node}
use Rattle.vm_tree_model.specs.Layout.{pairs_size, cut_from, cut}
use Rattle.vm_tree_model.specs.Edits.{IsSplit}
use Rattle.vm_tree_model.specs.Fixed.{fixed, fixed_pairs, capacity, places}
use Rattle.vm_tree_model.proofs.FixedLaws.{form_tells, form_from, ones_are, cut_is}
use Rattle.vm_tree_model.proofs.PairWords.{length-places, length-pairs_of, pairs_of-at, places_same}
use Rattle.vm_tree_model.proofs.WordTests.{zeros_past-from}
use Rattle.vm_page.specs.Sizes.{IsSize}
use Rattle.vm_node.specs.Halves.{half_of}
use Rattle.vm_node.proofs.Sizes.{whole, halves, big}

pub record IsHalved (z half : ℕ) (old new right : List ℕ) : Type 0 where
  pub old_length : length old ≡ z
  pub new_length : length new ≡ z
  pub right_length : length right ≡ z
  pub tag : get_or new 0 0 ≡ get_or old 0 0
  pub count : get_or new 1 0 ≡ half
  pub low : get_or new 2 0 ≡ get_or old 2 0
  pub high : get_or new 3 0 ≡ get_or old (8 + 2 * half) 0
  pub endless : get_or new 4 0 ≡ 0
  pub level : get_or new 5 0 ≡ get_or old 5 0
  pub kept : (k : ℕ) → 6 ≤ k → k < 8 + 2 * half → get_or new k 0 ≡ get_or old k 0
  pub zero_above : (k : ℕ) → 8 + 2 * half ≤ k → get_or new k 0 ≡ 0
  pub right_tag : get_or right 0 0 ≡ get_or old 0 0
  pub right_count : get_or right 1 0 ≡ half
  pub right_low : get_or right 2 0 ≡ get_or old (8 + 2 * half) 0
  pub right_high : get_or right 3 0 ≡ get_or old 3 0
  pub right_endless : get_or right 4 0 ≡ get_or old 4 0
  pub right_level : get_or right 5 0 ≡ get_or old 5 0
  pub right_header : (k : ℕ) → 6 ≤ k → k < 8 → get_or right k 0 ≡ 0
  pub moved : (k : ℕ) → k < 2 * half → get_or right (8 + k) 0 ≡ get_or old (8 + 2 * half + k) 0
  pub right_above : (k : ℕ) → 8 + 2 * half ≤ k → get_or right k 0 ≡ 0

pub node_path : (n m : Node) → n.tag ≡ m.tag → n.level ≡ m.level → n.low ≡ m.low → n.high ≡ m.high → n.pairs ≡ m.pairs → n ≡ m
node_path n m t l a b p = λ i. record { tag = t i; level = l i; low = a i; high = b i; pairs = p i }

less_none : (k : ℕ) → k - 0 ≡ k
less_none k = omega arith

-- the cut of an even number of pairs is the half
pub cut-half : (l : Pairs) (half : ℕ) → length l ≡ 2 * half → cut_from (λ _. 1) 0 (pairs_size (λ _. 1) l) l ≡ half
cut-half l half long = let sum : pairs_size (λ _. 1) l ≡ 2 * half = ones_are l ∙ long in
    rw sum (cut_is l 0 half (omega arith) (omega (arith, long)) ∙ less_none half)

module _ (z half : ℕ) (size_of : IsSize z) (even : capacity z ≡ 2 * half) (old new right : List ℕ)
    (h : IsHalved z half old new right) (full : length (fixed_pairs z old) ≡ capacity z)
    (fits : get_or old (8 + 2 * half) 0 < 2 ^ 64) where
  all_places : fixed_pairs z old ≡ places old
  all_places = take_all _ (places old)
      (omega (
        arith,
        length-places z (capacity z) (whole z size_of) old h.old_length,
        full,
        length-pairs_of z (capacity z) (whole z size_of) old h.old_length,
      ))

  at : cut_from (λ _. 1) 0 (pairs_size (λ _. 1) (fixed_pairs z old)) (fixed_pairs z old) ≡ half
  at = cut-half (fixed_pairs z old) half (full ∙ even)

  half_some : 1 ≤ half
  half_some = let words = big z size_of in omega (arith, even, words)

  least : min half (capacity z) ≡ half
  least = omega (arith, even)

  left_pairs : fixed_pairs z new ≡ take half (fixed_pairs z old)
  left_pairs = rw (h.count, least, all_places)
      (places_same z (capacity z) (whole z size_of) new old 0 0 half h.new_length h.old_length (omega (arith, even))
      (omega (arith, even)) (λ k lt. h.kept (8 + k) (omega arith) (omega (arith, lt))))

  right_pairs : fixed_pairs z right ≡ drop half (fixed_pairs z old)
  right_pairs = rw (h.right_count, least, all_places)
      (places_same z (capacity z) (whole z size_of) right old 0 half half h.right_length h.old_length
      (omega (arith, even)) (omega (arith, even)) (λ k lt. h.moved k lt)
      ∙ take_all half (drop half (places old))
      (omega (
        arith,
        even,
        length-drop half (places old),
        length-places z (capacity z) (whole z size_of) old
            h.old_length,
      )))

  pub split_is : IsSplit (fixed z) old new right (get_or old (8 + 2 * half) 0)
  split_is = record {
    separates = ap (λ (i : ℕ). (get_or (fixed_pairs z old) i (0, 0)).0) at ∙ ap (λ (x : ℕ × ℕ). x.0)
        (pairs_of-at z (capacity z) (whole z size_of) old h.old_length half (some_left half_some));
    left_is = node_path _ _ h.tag h.level h.low (rw (h.endless, h.high) refl)
        (left_pairs ∙ ap (λ (i : ℕ). take i (fixed_pairs z old)) (sym at));
    right_is = node_path _ _ h.right_tag h.right_level h.right_low (rw (h.right_endless, h.right_high) refl)
        (right_pairs ∙ ap (λ (i : ℕ). drop i (fixed_pairs z old)) (sym at));
    left_clean = λ clean. let f = form_tells z old clean in form_from z new (record {
      length = h.new_length;
      count = rw h.count (omega (arith, even));
      fence = inl (h.endless, rw h.high fits);
      sixth = h.kept 6 (omega arith) (omega arith) ∙ f.sixth;
      seventh = h.kept 7 (omega arith) (omega arith) ∙ f.seventh;
      rest = zeros_past-from new (8 + 2 * get_or new 1 0) (λ i le. h.zero_above i (rw h.count at le));
    });
    right_clean = λ clean. let f = form_tells z old clean in form_from z right (record {
      length = h.right_length;
      count = rw h.right_count (omega (arith, even));
      fence = rw (h.right_endless, h.right_high) f.fence;
      sixth = h.right_header 6 (omega arith) (omega arith);
      seventh = h.right_header 7 (omega arith) (omega arith);
      rest = zeros_past-from right (8 + 2 * get_or right 1 0) (λ i le. h.right_above i (rw h.right_count at le));
    });
  }
    where
      some_left : 1 ≤ half → half < min (get_or old 1 0) (capacity z)
      some_left some = omega (arith, some, even, full, length-pairs_of z (capacity z) (whole z size_of) old h.old_length)

-- a full node has pairs on both sides of the cut
pub cut_inside : (z : ℕ) → IsSize z → (l : Pairs) → length l ≡ capacity z → cut (fixed z) l < length l
cut_inside z size l full = let at = cut-half l (half_of z) (full ∙ halves z size) in let some = big z size in
    omega (arith, at, full, halves z size, some)

pub cut_some : (z : ℕ) → IsSize z → (l : Pairs) → length l ≡ capacity z → 1 ≤ cut (fixed z) l
cut_some z size l full = let at = cut-half l (half_of z) (full ∙ halves z size) in let some = big z size in
    omega (arith, at, halves z size, some)

pub zeros : (n k : ℕ) → get_or {A = ℕ} (replicate n 0) k 0 ≡ 0
zeros zero k = refl
zeros (suc n) zero = refl
zeros (suc n) (suc k) = zeros n k
