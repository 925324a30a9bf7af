-- The words of a page of n = 2 * c + 8 as pairs: it has place for c.
use Rattle.std.proofs.Common.{◌≡◌, ℕ, zero, suc, ◌+◌, ◌*◌, ◌<◌, ◌≤◌, List, [], ◌∷◌, length, get_or, set, take, drop}
use Rattle.std.proofs.Common.{min, refl, sym, ap, ◌∙◌, subst, arith, length-take, length-drop}
use Rattle.std.proofs.lemmas.List.{same_lists, get_or_default, get_or-drop, get_or-take, drop-set-add}
use Rattle.vm_map.specs.Map.{Pairs}
use Rattle.vm_tree_model.specs.Fixed.{pairs_in, places, capacity, fixed_pairs}
use Rattle.vm_tree_model.proofs.FixedLaws.{length-pairs_in}

pairs_in-at_word : (l : List ℕ) (i j : ℕ) → j ≡ 2 * i → j + 1 < length l → get_or (pairs_in l) i (0, 0) ≡ (get_or l j 0, get_or l (suc j) 0)
pairs_in-at_word [] i j e lt = absurd (omega arith)
pairs_in-at_word (k ∷ []) i j e lt = absurd (omega arith)
pairs_in-at_word (k ∷ v ∷ rest) zero zero e lt = refl
pairs_in-at_word (k ∷ v ∷ rest) zero (suc j) e lt = absurd (omega arith)
pairs_in-at_word (k ∷ v ∷ rest) (suc i) zero e lt = absurd (omega arith)
pairs_in-at_word (k ∷ v ∷ rest) (suc i) (suc zero) e lt = absurd (omega arith)
pairs_in-at_word (k ∷ v ∷ rest) (suc i) (suc (suc j)) e lt = pairs_in-at_word rest i j (omega arith) (omega arith)

pairs_in-set_word : (l : List ℕ) (i j a b : ℕ) → j ≡ 2 * i → j + 1 < length l
    → pairs_in (set (set l j a) (suc j) b) ≡ set (pairs_in l) i (a, b)
pairs_in-set_word [] i j a b e lt = absurd (omega arith)
pairs_in-set_word (k ∷ []) i j a b e lt = absurd (omega arith)
pairs_in-set_word (k ∷ v ∷ rest) zero zero a b e lt = refl
pairs_in-set_word (k ∷ v ∷ rest) zero (suc j) a b e lt = absurd (omega arith)
pairs_in-set_word (k ∷ v ∷ rest) (suc i) zero a b e lt = absurd (omega arith)
pairs_in-set_word (k ∷ v ∷ rest) (suc i) (suc zero) a b e lt = absurd (omega arith)
pairs_in-set_word (k ∷ v ∷ rest) (suc i) (suc (suc j)) a b e lt =
    ap (λ (r : Pairs). (k, v) ∷ r) (pairs_in-set_word rest i j a b (omega arith) (omega arith))

module _ (n c : ℕ) (is : n ≡ 2 * c + 8) (words : List ℕ) (len : length words ≡ n) where
  pub capacity-is : capacity n ≡ c
  capacity-is = omega (arith, is)

  pub length-places : length (places words) ≡ c
  length-places = length-pairs_in (drop 8 words) c (omega (arith, length-drop 8 words, len, is))

  pub length-pairs_of : length (fixed_pairs n words) ≡ min (get_or words 1 0) c
  length-pairs_of = omega (arith, length-take (min (get_or words 1 0) (capacity n)) (places words), length-places, capacity-is)

  pub places-at : (i : ℕ) → i < c → get_or (places words) i (0, 0) ≡ (get_or words (8 + 2 * i) 0, get_or words (9 + 2 * i) 0)
  places-at i lt =
      let at = pairs_in-at_word (drop 8 words) i (2 * i) refl (omega (arith, length-drop 8 words, len, is)) in
      let key = get_or-drop 8 words (2 * i) 0 in
      let value : get_or (drop 8 words) (suc (2 * i)) 0 ≡ get_or words (9 + 2 * i) 0 =
      get_or-drop 8 words (suc (2 * i)) 0 ∙ ap (λ n. get_or words n 0) (omega arith) in
      at ∙ ap (λ (x : ℕ). (x, get_or (drop 8 words) (suc (2 * i)) 0)) key ∙ ap (λ (y : ℕ). (get_or words (8 + 2 * i) 0, y)) value

  pub pairs_of-at : (i : ℕ) → i < min (get_or words 1 0) c
      → get_or (fixed_pairs n words) i (0, 0) ≡ (get_or words (8 + 2 * i) 0, get_or words (9 + 2 * i) 0)
  pairs_of-at i lt = get_or-take (min (get_or words 1 0) (capacity n)) (places words) i (0, 0)
      (omega (arith, lt, capacity-is)) ∙ places-at i (omega arith)

  pub places-set : (i a b : ℕ) → i < c → places (set (set words (8 + 2 * i) a) (9 + 2 * i) b) ≡ set (places words) i (a, b)
  places-set i a b lt =
      let outer : drop 8 (set (set words (8 + 2 * i) a) (8 + suc (2 * i)) b) ≡ set (drop 8 (set words (8 + 2 * i) a))
      (suc (2 * i)) b = drop-set-add 8 (set words (8 + 2 * i) a) (suc (2 * i)) b in
      let inner : drop 8 (set words (8 + 2 * i) a) ≡ set (drop 8 words) (2 * i) a = drop-set-add 8 words (2 * i) a in
      let spot : 9 + 2 * i ≡ 8 + suc (2 * i) = omega arith in
      subst (λ n. pairs_in (drop 8 (set (set words (8 + 2 * i) a) n b)) ≡ set (places words) i (a, b)) (sym spot)
      (ap pairs_in (outer ∙ ap (λ (x : List ℕ). set x (suc (2 * i)) b) inner) ∙ pairs_in-set_word (drop 8 words) i
      (2 * i) a b refl (omega (arith, length-drop 8 words, len, is)))

-- pairs of two pages whose words agree
pub places_same : (size c : ℕ) → size ≡ 2 * c + 8 → (v w : List ℕ) (i j n : ℕ) → length v ≡ size → length w ≡ size → i + n ≤ c → j + n ≤ c
    → ((k : ℕ) → k < 2 * n → get_or v (8 + 2 * i + k) 0 ≡ get_or w (8 + 2 * j + k) 0)
    → take n (drop i (places v)) ≡ take n (drop j (places w))
places_same size c is v w i j n lv lw in_v in_w same =
    same_lists _ _ lengths (λ k d lt. get_or_default _ k d (0, 0) lt ∙ each k (lt_n k lt)
    ∙ sym (get_or_default _ k d (0, 0) (rw (← lengths) lt)))
  where
    lengths : length (take n (drop i (places v))) ≡ length (take n (drop j (places w)))
    lengths = omega (
      arith,
      length-take n (drop i (places v)),
      length-take n (drop j (places w)),
      length-drop i (places v),
      length-drop j (places w),
      length-places size c is v lv,
      length-places size c is w
          lw,
    )

    lt_n : (k : ℕ) → k < length (take n (drop i (places v))) → k < n
    lt_n k lt = omega (arith, length-take n (drop i (places v)))

    each : (k : ℕ) → k < n → get_or (take n (drop i (places v))) k (0, 0) ≡ get_or (take n (drop j (places w))) k (0, 0)
    each k lt =
        let read : get_or (places v) (i + k) (0, 0) ≡ (get_or v (8 + 2 * (i + k)) 0, get_or v (9 + 2 * (i + k)) 0) =
        places-at size c is v lv (i + k) (omega arith) in
        let read' : get_or (places w) (j + k) (0, 0) ≡ (get_or w (8 + 2 * (j + k)) 0, get_or w (9 + 2 * (j + k)) 0) =
        places-at size c is w lw (j + k) (omega arith) in
        let key : get_or v (8 + 2 * (i + k)) 0 ≡ get_or w (8 + 2 * (j + k)) 0 =
        at_same (2 * k) (8 + 2 * (i + k)) (8 + 2 * (j + k)) (omega arith) (omega arith) (omega arith) in
        let value : get_or v (9 + 2 * (i + k)) 0 ≡ get_or w (9 + 2 * (j + k)) 0 =
        at_same (2 * k + 1) (9 + 2 * (i + k)) (9 + 2 * (j + k)) (omega arith) (omega arith) (omega arith) in
        get_or-take n (drop i (places v)) k (0, 0) lt ∙ get_or-drop i (places v) k (0, 0) ∙ read
        ∙ ap (λ (x : ℕ). (x, get_or v (9 + 2 * (i + k)) 0)) key ∙ ap (λ (y : ℕ). (get_or w (8 + 2 * (j + k)) 0, y)) value
        ∙ sym read' ∙ sym (get_or-drop j (places w) k (0, 0)) ∙ sym (get_or-take n (drop j (places w)) k (0, 0) lt)
      where
        at_same : (m x y : ℕ) → m < 2 * n → x ≡ 8 + 2 * i + m → y ≡ 8 + 2 * j + m → get_or v x 0 ≡ get_or w y 0
        at_same m x y lt ex ey = rw (ex, ey) (same m lt)
