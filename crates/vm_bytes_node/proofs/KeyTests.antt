-- Tests of keys are tests of their ranks.
use Rattle.std.proofs.Common.{◌≡◌, ℕ, suc, ◌+◌, ◌<◌, ltb, Bool, true, false, List, [], ◌∷◌, length, get_or, Some, refl, sym, ap, subst, ◌∙◌}
use Rattle.std.proofs.Common.{arith}
use Rattle.std.proofs.lemmas.Bool.{lt-ltb, ltb-true}
use Rattle.std.proofs.lemmas.Bool.Decides.{nat_tests}
use Rattle.std.proofs.lemmas.Cmp.{same_from_slice_cmp_tested}
use Rattle.std.proofs.lemmas.Slice.Eq.{bytes_eq-Decides}
use Rattle.std.specs.Bool.{Decides}
use Rattle.std.specs.Str.{bytes_eq}
use Rattle.std.specs.Cmp.Lexicographic.{slice_partial_cmp}
use Rattle.std.specs.Ordering.{nat_cmp, is_some_and, is_lt}
use Rattle.vm_node.specs.Loads.{IsAnswer}
use Rattle.vm_bytes_form.specs.Strings.{before, AreBytes, IsString, rank}
use Rattle.vm_bytes_form.specs.Cuts.{words_for, pair_size}
use Rattle.vm_bytes_form.proofs.BytesLaws.{key_words-are}
use Rattle.vm_bytes_form.proofs.KeyMaps.{before_test}
use Rattle.vm_bytes_form.proofs.Ranks.{rank_one}
use Rattle.vm_bytes_form.proofs.RoundTrip.{length-string_words}

pub bytes_from : (s : List ℕ) → ((i : ℕ) → get_or s i 0 < 256) → AreBytes s
bytes_from [] each = tt
bytes_from (b ∷ s) each = (each 0, bytes_from s (λ i. each (suc i)))

is_before : (s t : List ℕ) (r : Bool) → r ≡ is_some_and is_lt (slice_partial_cmp (λ x y. Some (nat_cmp x y)) s t) → r ≡ before s t
is_before = same_from_slice_cmp_tested nat_cmp is_lt before refl (λ _ _. refl) (λ _ _. refl) (λ x y xs ys o h. grind (arith, nat_tests))

answers : (r test : Bool) (P : Type 0) → r ≡ test → (test ≡ true → P) → (P → test ≡ true) → IsAnswer r P
answers true true P e to from = (λ _. to refl, λ f _. absurd (cc))
answers true false P e to from = absurd (cc)
answers false true P e to from = absurd (cc)
answers false false P e to from = (λ t. absurd (cc), λ _ p. absurd (let t = from p in cc))

decided : (r : Bool) (P Q : Type 0) → Decides r P → (P → Q) → (Q → P) → IsAnswer r Q
decided true P Q is to from = (λ _. to (is.0 refl), λ f _. absurd (cc))
decided false P Q is to from = (λ t. absurd (cc), λ _ q. absurd (let t = is.1 (from q) in cc))

pub before_answers : (s t : List ℕ) → IsString 64 s → IsString 64 t → (r : Bool)
    → r ≡ is_some_and is_lt (slice_partial_cmp (λ x y. Some (nat_cmp x y)) s t) → IsAnswer r (rank s < rank t)
before_answers s t is it r e = answers r (ltb (rank s) (rank t)) (rank s < rank t) (is_before s t r e ∙ before_test s t is it)
    (ltb-true (rank s) (rank t)) (lt-ltb (rank s) (rank t))

module _ (s t key other : List ℕ) (same_key : s ≡ key) (same_other : t ≡ other) (is : IsString 64 s) (it : IsString 64 t) (r : Bool) where
  pub same_answers : r ≡ bytes_eq s t → IsAnswer r (rank key ≡ rank other)
  same_answers e = subst (λ (k : List ℕ). IsAnswer r (rank k ≡ rank other)) same_key
      (subst (λ (o : List ℕ). IsAnswer r (rank s ≡ rank o)) same_other
      (decided r (s ≡ t) (rank s ≡ rank t) (subst (λ (b : Bool). Decides b (s ≡ t)) (sym e) (bytes_eq-Decides s t))
      (ap rank) (rank_one 64 s t is.fits it.fits is.bytes it.bytes)))

-- a pair's size, by its key
pub pair_size-is : (s : List ℕ) → IsString 64 s → pair_size (rank s) ≡ 2 + words_for (length s)
pair_size-is s is = omega (arith, key_words-are s is, length-string_words (words_for (length s)) s)
