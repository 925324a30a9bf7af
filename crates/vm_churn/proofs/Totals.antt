-- How many calls a churn has in all.
use Rattle.std.specs.List.{range_with_len, sum_by}
use Rattle.std.proofs.Common.{[], ⊎_elim, ◌%◌, ◌+◌, ◌==◌, ◌∙◌, ◌∷◌, ◌≡◌, ◌≢◌, ◌≤◌, add-one, ap, arith, cond, false}
use Rattle.std.proofs.Common.{length, length-append, List, map, refl, suc, sym, true, zero, ℕ}
use Rattle.std.proofs.lemmas.Bool.{cases_eq, eq-eqb, ne_eqb}
use Rattle.std.proofs.lemmas.List.FromFn.{sum_by-map-range_with_len_more}
use Rattle.std.proofs.lemmas.Nat.{mod_below}
use Rattle.vm_map.specs.declared.call.Call.{Call}
use Rattle.vm_map.specs.declared.call.Call.TheVariants.{Del, Get, Put}
use Rattle.vm_churn.specs.Calls.{calls_for, churn_count, churn_lists, key_at, place_calls}
use Rattle.vm_churn.proofs.Lists.{calls_up_to, other, own}
use Rattle.vm_churn.proofs.Tallying.{sum_to, sum_to-both, sum_to-none, sum_to-one}

abbrev size : List Call → ℕ
size calls = length calls

listed-sum : (f : ℕ → List Call) (m : ℕ) → sum_by size (map f (range_with_len 0 m)) ≡ sum_to (λ w. length (f w)) m
listed-sum f zero = refl
listed-sum f (suc m) = ap (λ k. sum_by size (map f (range_with_len 0 k))) (sym (add-one m))
    ∙ sum_by-map-range_with_len_more size f 0 m m (omega arith) ∙ ap (λ k. k + length (f m)) (listed-sum f m)

-- how many calls a place has
abbrev place_count : ℕ → ℕ
place_count place = 2 + cond (place % 2 == 0) 1 0

place-length : (place key new : ℕ) → length (calls_for place key new) ≡ place_count place
place-length place key new =
    elim (place % 2 == 0) as (λ b. length (Get key ∷ Put new place ∷ cond b (Del key ∷ []) []) ≡ 2 + cond b 1
    0) [ true ↦ refl | false ↦ refl ]

count-more : (k : ℕ) → churn_count k + place_count (suc k) ≡ churn_count (suc k)
count-more k =
    ⊎_elim
    (λ (is : suc k % 2 ≡ 0). let t : (suc k % 2 == 0) ≡ true = eq-eqb (suc k % 2) 0 is in rw t (omega (arith, is)))
    (λ (not : suc k % 2 ≢ 0). let t : (suc k % 2 == 0) ≡ false = ne_eqb (suc k % 2) 0 not in rw t (omega (arith, not)))
    (cases_eq (suc k % 2) 0)

module _ (n seed workers : ℕ) (some : 1 ≤ workers) where
  abbrev size_at : ℕ → ℕ → ℕ
  size_at k w = length (calls_up_to n seed workers k w)

  abbrev hit : ℕ → ℕ → ℕ
  hit k w = cond (k % workers == w) (place_count (suc k)) 0

  more : (k w : ℕ) → size_at (suc k) w ≡ size_at k w + hit k w
  more k w =
      ⊎_elim
      (λ (is : k % workers ≡ w).
      let t : (k % workers == w) ≡ true = eq-eqb (k % workers) w is in
      let grown : size_at (suc k) w ≡ size_at k w + length (place_calls n seed (suc k)) =
      ap length (own n seed workers k w is) ∙ length-append (calls_up_to n seed workers k w)
      (place_calls n seed (suc k)) in
      rw t (grown ∙ ap (λ m. size_at k w + m) (place-length (suc k) (key_at seed (suc k)) (key_at seed (n + suc k)))))
      (λ (not : k % workers ≢ w). let t : (k % workers == w) ≡ false = ne_eqb (k % workers) w not in
      rw t (ap length (other n seed workers k w not) ∙ omega arith))
      (cases_eq (k % workers) w)

  one : (k : ℕ) → sum_to (hit k) workers ≡ place_count (suc k)
  one k =
      let w : ℕ = k % workers in
      sum_to-one (hit k) workers (k % workers) (mod_below k workers some)
      (λ v l not. let t : (k % workers == v) ≡ false = ne_eqb (k % workers) v (λ e. not (sym e)) in rw t refl)
      ∙ rw (eq-eqb (k % workers) (k % workers) refl) refl

  total : (k : ℕ) → sum_to (size_at k) workers ≡ churn_count k
  total zero = sum_to-none (size_at 0) workers (λ w l. refl) ∙ omega arith
  total (suc k) =
      sum_to-both (size_at k) (hit k) (size_at (suc k)) workers (λ w l. more k w) ∙ omega (arith, total k, one k, count-more k)

  pub calls_total : sum_by length (churn_lists n seed workers) ≡ churn_count n
  calls_total = listed-sum (calls_up_to n seed workers n) workers ∙ total n
