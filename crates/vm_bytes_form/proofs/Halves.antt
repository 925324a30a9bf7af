-- A full node with byte keys is cut into halves that fit, and the weights pay for it.
use Rattle.std.proofs.Common.{◌≡◌, inl, inr, ℕ, zero, suc, ◌+◌, ◌*◌, ◌<◌, ◌≤◌, leb, true, false, [], ◌∷◌, length, take, drop, refl, arith}
use Rattle.std.proofs.lemmas.Bool.{cases_lt}
use Rattle.std.proofs.lemmas.Bool.Decides.{nat_tests}
use Rattle.vm_map.specs.Map.{Pairs}
use Rattle.vm_bytes_form.specs.Cuts.{key_words, pair_size, Pays}
use Rattle.vm_tree_model.specs.Layout.{pairs_size, cut_from}
use Rattle.vm_bytes_form.proofs.Ranks.{length-string}

pub key_words-few : (k : ℕ) → key_words k ≤ 8
key_words-few k = omega (arith, length-string 64 k)

pub sizes-join : (each : ℕ → ℕ) (es : Pairs) (m : ℕ) → pairs_size each es ≡ pairs_size each (take m es) + pairs_size each (drop m es)
sizes-join each [] zero = refl
sizes-join each [] (suc m) = refl
sizes-join each (e ∷ es) zero = omega arith
sizes-join each (e ∷ es) (suc m) = omega (arith, sizes-join each es m)

module _ (each : ℕ → ℕ) (most : ℕ) (few : (k : ℕ) → each k ≤ most) (whole : ℕ) where
  not_yet : (got : ℕ) → 2 * got < whole → leb whole (2 * got) ≡ false
  not_yet got lt = grind (arith, nat_tests, lt)

  at_once : (got : ℕ) → whole ≤ 2 * got → leb whole (2 * got) ≡ true
  at_once got le = grind (arith, nat_tests, le)

  -- the first pairs have half of the whole, and not many more
  pub cut-enough : (es : Pairs) (got : ℕ) → whole ≤ 2 * (got + pairs_size each es)
      → whole ≤ 2 * (got + pairs_size each (take (cut_from each got whole es) es))
  cut-enough [] got enough = enough
  cut-enough (e ∷ es) got enough = elim (cases_lt (2 * got) whole) [
    | inl lt ↦ rw (not_yet got lt) (let rest = cut-enough es (got + each e.0) (omega (arith, enough)) in omega (arith, rest))
    | inr past ↦ rw (at_once got past) (omega (arith, past))
  ]

  pub cut-close : (es : Pairs) (got : ℕ) → 2 * got ≤ whole + 2 * most
      → 2 * (got + pairs_size each (take (cut_from each got whole es) es)) ≤ whole + 2 * most
  cut-close [] got le = omega (arith, le)
  cut-close (e ∷ es) got le = elim (cases_lt (2 * got) whole) [
    | inl lt ↦ rw (not_yet got lt) (let rest = cut-close es (got + each e.0) (omega (arith, lt, few e.0)) in omega (arith, rest))
    | inr past ↦ rw (at_once got past) (omega (arith, le))
  ]

-- what is left of a cut at 0, and of one behind the last pair
none-left : (each : ℕ → ℕ) (es : Pairs) (m : ℕ) → m < 1 → pairs_size each (take m es) ≡ 0
none-left each es zero lt = refl
none-left each es (suc m) lt = absurd (omega (arith, lt))

none-right : (each : ℕ → ℕ) (es : Pairs) (m : ℕ) → length es ≤ m → pairs_size each (drop m es) ≡ 0
none-right each [] zero le = refl
none-right each [] (suc m) le = refl
none-right each (e ∷ es) zero le = absurd (omega (arith, le))
none-right each (e ∷ es) (suc m) le = none-right each es m (omega (arith, le))

pub pays : (low high separator : ℕ) (es : Pairs) → low ≤ 8 → high ≤ 8 → separator ≤ 8 → low + high + pairs_size pair_size es ≤ 504
    → 504 < low + high + pairs_size pair_size es + 10
    → Pays low high separator es (cut_from pair_size 0 (pairs_size pair_size es) es)
pays low high separator es l h s fits full =
    let whole = pairs_size pair_size es in
    let m = cut_from pair_size 0 (pairs_size pair_size es) es in
    let few : (k : ℕ) → pair_size k ≤ 10 = λ k. omega (arith, key_words-few k) in
    let enough = cut-enough pair_size 10 few (pairs_size pair_size es) es 0 (omega arith) in
    let close = cut-close pair_size 10 few (pairs_size pair_size es) es 0 (omega arith) in
    let join = sizes-join pair_size es m in
    record {
      left_some = elim (cases_lt m 1) [
        | inl none ↦ absurd (omega (arith, enough, none-left pair_size es m none, full, l, h))
        | inr some ↦ some
      ];
      right_some = elim (cases_lt m (length es)) [
        | inl some ↦ some
        | inr past ↦ absurd (omega (arith, close, join, none-right pair_size es m past, full, l, h))
      ];
      left_fits = omega (arith, close, fits, l, h, s);
      right_fits = omega (arith, enough, join, fits, l, h, s);
      below = omega (arith, enough, close, join, fits, full, l, h, s);
      above = omega (arith, enough, close, join, fits, full, l, h, s);
    }
