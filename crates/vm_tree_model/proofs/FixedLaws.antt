-- Pages of 4 * h + 8 words, with place for 2 * h pairs, are a layout.
use Rattle.std.proofs.Common.{◌≡◌, ◌⊎◌, inl, inr, ℕ, zero, suc, ◌+◌, ◌-◌, ◌*◌, ◌<◌, ◌≤◌, List, [], ◌∷◌, length}
use Rattle.std.proofs.Common.{get_or, take, drop, min, true, false, eqb, ltb, leb, ◌==◌, ◌||◌, ◌&&◌, if◌then◌else◌}
use Rattle.std.proofs.Common.{refl, ap, ◌∙◌, arith, length-take, length-drop}
use Rattle.std.proofs.lemmas.Bool.{cases_eq, and_parts, and_from, eqb-true, eq-eqb, leb-true, le-leb, lt-ltb, or_cases, or_left, or_right}
use Rattle.std.proofs.lemmas.Bool.Decides.{nat_tests}
use Rattle.vm_map.specs.Keys.{KEY_END}
use Rattle.vm_page.specs.Sizes.{IsSize}
use Rattle.vm_map.specs.Map.{Pairs}
use Rattle.vm_tree_model.specs.Node.{Node}
use Rattle.vm_tree_model.specs.Layout.{IsLayout, PaysForSplit, pairs_size, size, cut_from, cut, left_part, right_part}
use Rattle.vm_tree_model.specs.Fixed.{fixed, fixed_node, fixed_pairs, fixed_is_clean, fixed_has_fences}
use Rattle.vm_tree_model.specs.Fixed.{fixed_has_form, fixed_magic, capacity, places, pairs_in, high_of, all_zero}

-- each pair counts 1
pub ones_are : (l : Pairs) → pairs_size (λ _. 1) l ≡ length l
ones_are [] = refl
ones_are (e ∷ es) = omega (arith, ones_are es)

-- the first pairs have half of a whole that is even
pub cut_is : (l : Pairs) (got half : ℕ) → got ≤ half → half ≤ got + length l → cut_from (λ _. 1) got (2 * half) l ≡ half - got
cut_is [] got half le enough = omega arith
cut_is (e ∷ es) got half le enough = elim (cases_eq got half) [
  | inl same ↦ let test : leb (2 * half) (2 * got) ≡ true = le-leb _ _ (omega (arith, same)) in rw test (omega (arith, same))
  | inr other ↦
      let test : leb (2 * half) (2 * got) ≡ false = not_yet (2 * half) (2 * got) (omega (arith, le, other)) in
      rw test (let rest = cut_is es (got + 1) half (omega (arith, le, other)) (omega (arith, enough)) in omega (arith, rest, le, other))
]
  where
    not_yet : (a b : ℕ) → b < a → leb a b ≡ false
    not_yet a b lt = grind (arith, nat_tests, lt)

-- what stands in words that are clean
pub record IsFixedForm (n : ℕ) (words : List ℕ) : Type 0 where
  pub length : length words ≡ n
  pub count : get_or words 1 0 ≤ capacity n
  pub fence : ((get_or words 4 0 ≡ 0) × (get_or words 3 0 < KEY_END)) ⊎ ((get_or words 4 0 ≡ 1) × (get_or words 3 0 ≡ 0))
  pub sixth : get_or words 6 0 ≡ 0
  pub seventh : get_or words 7 0 ≡ 0
  pub rest : all_zero (drop (8 + 2 * get_or words 1 0) words) ≡ true

fence_either : (w3 w4 : ℕ) → (w4 == 0 && ltb w3 KEY_END || w4 == 1 && w3 == 0) ≡ true → ((w4 ≡ 0) × (w3 < KEY_END)) ⊎ ((w4 ≡ 1) × (w3 ≡ 0))
fence_either w3 w4 is = elim (cases_eq w4 0) [
  | inl same ↦ inl (same, grind (arith, nat_tests, is, same))
  | inr other ↦ inr (grind (arith, nat_tests, is, other), grind (arith, nat_tests, is, other))
]

fence_test : (w3 w4 : ℕ) → ((w4 ≡ 0) × (w3 < KEY_END)) ⊎ ((w4 ≡ 1) × (w3 ≡ 0)) → (w4 == 0 && ltb w3 KEY_END || w4 == 1 && w3 == 0) ≡ true
fence_test w3 w4 (inl closed) = or_left _ _ (and_from _ _ (eq-eqb w4 0 closed.0) (lt-ltb w3 KEY_END closed.1))
fence_test w3 w4 (inr endless) = or_right (w4 == 0 && ltb w3 KEY_END) _ (and_from _ _ (eq-eqb w4 1 endless.0) (eq-eqb w3 0 endless.1))

module _ (n : ℕ) (words : List ℕ) where
  pub form_tells : fixed_is_clean n words ≡ true → IsFixedForm n words
  form_tells is =
      let (a, rest) = and_parts _ (all_zero (drop (8 + 2 * get_or words 1 0) words)) is in
      let (b, seventh) = and_parts _ (eqb (get_or words 7 0) 0) a in
      let (c, sixth) = and_parts _ (eqb (get_or words 6 0) 0) b in
      let (d, fence) = and_parts _ (get_or words 4 0 == 0 && ltb (get_or words 3 0) KEY_END || get_or words 4 0 ==
      1 && get_or words 3 0 == 0) c in
      let (long, most) = and_parts (eqb (length words) n) (leb (get_or words 1 0) (capacity n)) d in
      record {
        length = eqb-true _ _ long;
        count = leb-true (get_or words 1 0) (capacity n) most;
        fence = fence_either (get_or words 3 0) (get_or words 4 0) fence;
        sixth = eqb-true _ _ sixth;
        seventh = eqb-true _ _ seventh;
        rest = rest;
      }

  pub form_from : IsFixedForm n words → fixed_is_clean n words ≡ true
  form_from f = and_from _ _
      (and_from _ _ (and_from _ _
      (and_from _ _ (and_from _ _ (eq-eqb _ _ f.length) (le-leb _ _ f.count)) (fence_test _ _ f.fence))
      (eq-eqb _ _ f.sixth)) (eq-eqb _ _ f.seventh)) f.rest

fence_is_high : (w3 w4 high : ℕ) → (if high == KEY_END then w3 == 0 && w4 == 1 else w3 == high && w4 == 0) ≡ true
    → (if w4 == 0 then w3 else KEY_END) ≡ high
fence_is_high w3 w4 high is = grind (arith, nat_tests)

fence_is_clean : (w3 w4 high : ℕ) → (if high == KEY_END then w3 == 0 && w4 == 1 else w3 == high && w4 == 0) ≡ true
    → high ≤ KEY_END → ((w4 ≡ 0) × (w3 < KEY_END)) ⊎ ((w4 ≡ 1) × (w3 ≡ 0))
fence_is_clean w3 w4 high is le = elim (cases_eq high KEY_END) [
  | inl same ↦ inr (grind (arith, nat_tests), grind (arith, nat_tests))
  | inr other ↦ inl (grind (arith, nat_tests), grind (arith, nat_tests))
]

fence_from : (w3 w4 high : ℕ) → ((w4 ≡ 0) × (w3 < KEY_END)) ⊎ ((w4 ≡ 1) × (w3 ≡ 0))
    → (if w4 == 0 then w3 else KEY_END) ≡ high
    → (if high == KEY_END then w3 == 0 && w4 == 1 else w3 == high && w4 == 0) ≡ true
fence_from w3 w4 high (inl closed) is = grind (arith, nat_tests, closed.0, closed.1)
fence_from w3 w4 high (inr endless) is = grind (arith, nat_tests, endless.0, endless.1)

high_within : (w3 w4 : ℕ) → ((w4 ≡ 0) × (w3 < KEY_END)) ⊎ ((w4 ≡ 1) × (w3 ≡ 0)) → (if w4 == 0 then w3 else KEY_END) ≤ KEY_END
high_within w3 w4 (inl closed) = grind (arith, nat_tests, closed.0, closed.1)
high_within w3 w4 (inr endless) = grind (arith, nat_tests, endless.0)

pub length-pairs_in : (l : List ℕ) (n : ℕ) → length l ≡ 2 * n → length (pairs_in l) ≡ n
length-pairs_in [] n e = omega arith
length-pairs_in (k ∷ []) n e = absurd (omega arith)
length-pairs_in (k ∷ v ∷ rest) zero e = absurd (omega arith)
length-pairs_in (k ∷ v ∷ rest) (suc n) e = ap suc (length-pairs_in rest n (omega arith))

module _ (n h : ℕ) (some : 3 ≤ h) (is : n ≡ 4 * h + 8) where
  capacity_is : capacity n ≡ 2 * h
  capacity_is = omega (arith, is)

  pub length-fixed_pairs : (w : List ℕ) → length w ≡ n → length (fixed_pairs n w) ≡ min (get_or w 1 0) (capacity n)
  length-fixed_pairs w len =
      omega (
        arith,
        length-take (min (get_or w 1 0) (capacity n)) (places w),
        length-pairs_in (drop 8 w) (2 * h)
            (omega (arith, length-drop 8 w, len, is)),
        capacity_is,
      )

  clean_fits : (w : List ℕ) → fixed_is_clean n w ≡ true → size (fixed n) (fixed_node n w) ≤ capacity n
  clean_fits w clean = omega (arith, ones_are (fixed_pairs n w), length-take (min (get_or w 1 0) (capacity n)) (places w))

  passes : (w : List ℕ) (level low high : ℕ) → fixed_is_clean n w ≡ true → get_or w 5 0 ≡ level → get_or w 2 0 ≡ low → high_of w ≡ high
      → (level ≡ 0) ⊎ (1 ≤ length (fixed_pairs n w)) → (fixed_has_fences low high w ≡ true) × (fixed_has_form n level w ≡ true)
  passes w level low high clean at from upto some_pair =
      let f = form_tells n w clean in
      let pair : (eqb level 0 || leb 1 (get_or w 1 0)) ≡ true = elim some_pair [
        | inl bottom ↦ or_left _ _ (eq-eqb _ _ bottom)
        | inr one ↦ or_right (eqb level 0) _ (le-leb _ _ (omega (arith, one, length-fixed_pairs w f.length)))
      ] in (
        and_from _ _ (eq-eqb _ _ from) (fence_from (get_or w 3 0) (get_or w 4 0) high f.fence upto),
        and_from _ _ (and_from _ _
            (and_from _ _ (and_from _ _ (and_from _ _ (and_from _ _ (eq-eqb _ _ f.length) pair) (le-leb _ _ f.count))
            (eq-eqb _ _ at)) (eq-eqb _ _ f.sixth)) (eq-eqb _ _ f.seventh)) f.rest,
      )

  passed : (w : List ℕ) (level low high : ℕ) → high ≤ KEY_END → fixed_has_fences low high w ≡ true → fixed_has_form n level w ≡ true
      → (fixed_is_clean n w ≡ true) × (get_or w 5 0 ≡ level) × (get_or w 2 0 ≡ low) × (high_of w ≡ high)
  passed w level low high upto fences form =
      let (a, rest) = and_parts _ (all_zero (drop (8 + 2 * get_or w 1 0) w)) form in
      let (b, seventh) = and_parts _ (eqb (get_or w 7 0) 0) a in
      let (c, sixth) = and_parts _ (eqb (get_or w 6 0) 0) b in
      let (d, at) = and_parts _ (eqb (get_or w 5 0) level) c in
      let (e, most) = and_parts _ (leb (get_or w 1 0) (capacity n)) d in
      let (long, one) = and_parts (eqb (length w) n) (eqb level 0 || leb 1 (get_or w 1 0)) e in
      let (from, high_test) =
      and_parts (eqb (get_or w 2 0) low)
      (if high == KEY_END then get_or w 3 0 == 0 && get_or w 4 0 == 1 else get_or w 3 0 == high && get_or w 4 0 ==
      0) fences in (
        form_from n w (record {
          length = eqb-true _ _ long;
          count = leb-true (get_or w 1 0) (capacity n) most;
          fence = fence_is_clean (get_or w 3 0) (get_or w 4 0) high high_test upto;
          sixth = eqb-true _ _ sixth;
          seventh = eqb-true _ _ seventh;
          rest = rest;
        }),
        eqb-true _ _ at,
        eqb-true _ _ from,
        fence_is_high (get_or w 3 0) (get_or w 4 0) high high_test,
      )

  splits : (node : Node) (separator : ℕ) → size (fixed n) node ≤ capacity n → capacity n < size (fixed n) node + 1
      → PaysForSplit (fixed n) node separator
  splits node separator fits full =
      let long : length node.pairs ≡ 2 * h = omega (arith, ones_are node.pairs, capacity_is, fits, full) in
      let whole : pairs_size (λ _. 1) node.pairs ≡ 2 * h = ones_are node.pairs ∙ long in
      let at : cut (fixed n) node.pairs ≡ h = rw whole (cut_is node.pairs 0 h (omega arith) (omega (arith, long)) ∙ zero_less h) in
      let left : length (take (cut (fixed n) node.pairs) node.pairs) ≡ h = rw at (omega (arith, length-take h node.pairs, long)) in
      let right : length (drop (cut (fixed n) node.pairs) node.pairs) ≡ h = rw at (omega (arith, length-drop h node.pairs, long)) in
      let left_size : size (fixed n) (left_part (fixed n) node separator) ≡ h =
      omega (arith, ones_are (take (cut (fixed n) node.pairs) node.pairs), left) in
      let right_size : size (fixed n) (right_part (fixed n) node separator) ≡ h =
      omega (arith, ones_are (drop (cut (fixed n) node.pairs) node.pairs), right) in
      record {
        left_some = omega (arith, at, some);
        right_some = omega (arith, at, some, long);
        left_fits = omega (arith, left_size, capacity_is);
        right_fits = omega (arith, right_size, capacity_is);
        below = omega (arith, left_size, right_size, capacity_is, whole, some);
        above = omega (arith, left_size, right_size, capacity_is, whole, some);
      }
    where
      zero_less : (k : ℕ) → k - 0 ≡ k
      zero_less k = omega arith

  -- the layout of pages of n words, whose magic word is a word above 3
  pub fixed_is_layout : 4 ≤ fixed_magic n → IsLayout (fixed n)
  fixed_is_layout above = record {
    some_words = omega (arith, is);
    some_magic = omega (arith, above);
    some_keys = omega arith;
    free_tag = λ w zeros. zeros 0;
    meta_tag = λ w magic node. omega (arith, magic, node, above);
    clean_length = λ w clean. (form_tells n w clean).length;
    clean_high = λ w clean. high_within (get_or w 3 0) (get_or w 4 0) (form_tells n w clean).fence;
    clean_fits = clean_fits;
    passes = λ w level low high tag clean. passes w level low high clean;
    passed = λ w level low high upto tag. passed w level low high upto;
    grows = λ key. omega arith;
    new_root = λ separator. omega (arith, capacity_is, some);
    joins = omega (arith, capacity_is, some);
    splits = splits;
  }

pub layout_64 : IsLayout (fixed 64)
layout_64 = fixed_is_layout 64 14 (omega arith) refl (omega arith)

pub layout_512 : IsLayout (fixed 512)
layout_512 = fixed_is_layout 512 126 (omega arith) refl (omega arith)

-- what holds of both sizes
pub size_is : (C : ℕ → Type 0) (n : ℕ) → IsSize n → C 64 → C 512 → C n
size_is C n is small large = elim (or_cases (n == 64) (n == 512) is) [
  | inl one ↦ (let e : n ≡ 64 = eqb-true n 64 one in rw e small)
  | inr two ↦ (let e : n ≡ 512 = eqb-true n 512 two in rw e large)
]

-- pages of each size are a layout
pub sized_layout : (n : ℕ) → IsSize n → IsLayout (fixed n)
sized_layout n is = size_is (λ k. IsLayout (fixed k)) n is layout_64 layout_512
