-- A map over byte strings is the map over their ranks.
use Rattle.std.proofs.Common.{◌≡◌, ◌&&◌, inl, inr, ℕ, ◌<◌, ◌≤◌, length, List, [], ◌∷◌, Bool, true, false, eqb, ltb, if◌then◌else◌, refl}
use Rattle.std.proofs.Common.{sym, ap, ◌∙◌, arith}
use Rattle.std.proofs.lemmas.Bool.{and_from, and_parts, cases_lt, eq-eqb, eqb-true, lt-ltb, ne_eqb}
use Rattle.std.proofs.lemmas.Bool.Decides.{nat_tests}
use Rattle.vm_map.specs.Map.{Pairs, lookup_at, put_pair, del_pair}
use Rattle.vm_bytes_form.specs.Strings.{AreBytes, before, IsBefore, IsString, rank, rank_in}
use Rattle.vm_bytes_form.specs.Forms.{KeyEntry, AreKeys}
use Rattle.vm_bytes_form.specs.Bytes.{same_words}
use Rattle.vm_bytes_form.specs.KeyMap.{lookup_key, put_key, del_key, ranks_of}
use Rattle.vm_bytes_form.proofs.Ranks.{rank_before, in_order, Stands, rank_tells}

pub same-refl : (s : List ℕ) → same_words s s ≡ true
same-refl [] = refl
same-refl (a ∷ s) = and_from (eqb a a) (same_words s s) (eq-eqb a a refl) (same-refl s)

same-not : (s t : List ℕ) → Stands s t → (same_words s t ≡ false) × (same_words t s ≡ false)
same-not s [] less = absurd less
same-not [] (b ∷ t) less = (refl, refl)
same-not (a ∷ s) (b ∷ t) (inl less) = (
  rw (ne_eqb a b (λ e. omega (arith, less, e))) refl,
  rw (ne_eqb b a (λ e. omega (arith, less, e))) refl,
)
same-not (a ∷ s) (b ∷ t) (inr rest) = let (one, two) = same-not s t rest.1 in (rw (eq-eqb a b rest.0) one, rw (eq-eqb b a (sym rest.0)) two)

before-is : (s t : List ℕ) → Stands s t → (before s t ≡ true) × (before t s ≡ false)
before-is s [] less = absurd less
before-is [] (b ∷ t) less = (refl, refl)
before-is (a ∷ s) (b ∷ t) (inl less) =
    let there : ltb a b ≡ true = lt-ltb a b less in
    let back : ltb b a ≡ false = grind (arith, nat_tests, less) in
    (rw there refl, rw (back, ne_eqb b a (λ e. omega (arith, less, e))) refl)
before-is (a ∷ s) (b ∷ t) (inr rest) =
    let (one, two) = before-is s t rest.1 in
    let e = rest.0 in
    let there : ltb a b ≡ false = grind (arith, nat_tests, e) in
    let back : ltb b a ≡ false = grind (arith, nat_tests, e) in
    (rw (there, eq-eqb a b e) one, rw (back, eq-eqb b a (sym e)) two)

-- and back
stands : (s t : List ℕ) → IsBefore s t → Stands s t
stands s [] is = absurd (cc)
stands [] (b ∷ t) is = tt
stands (a ∷ s) (b ∷ t) is = elim (cases_lt a b) [
  | inl less ↦ inl less
  | inr from ↦
      let not_less : ltb a b ≡ false = grind (arith, nat_tests, from) in
      let rest : (eqb a b && before s t) ≡ true = (rw not_less at is) in
      let parts = and_parts (eqb a b) (before s t) rest in
      inr (eqb-true a b parts.0, stands s t parts.1)
]

-- so strings are in order where their ranks are
module _ (n : ℕ) (s t : List ℕ) where
  pub rank_rises : length t ≤ n → AreBytes s → AreBytes t → IsBefore s t → rank_in n s < rank_in n t
  rank_rises fits bs bt is = rank_before n s t fits bs bt (stands s t is)

  pub rank_shows : length s ≤ n → length t ≤ n → AreBytes s → AreBytes t → rank_in n s < rank_in n t → IsBefore s t
  rank_shows fits_s fits_t bs bt less = (before-is s t (rank_tells n s t fits_s fits_t bs bt less)).0

before-not : (s : List ℕ) → before s s ≡ false
before-not [] = refl
before-not (a ∷ s) = let same : ltb a a ≡ false = grind (arith, nat_tests) in rw (same, eq-eqb a a refl) (before-not s)

-- tests of strings are tests of their ranks
module _ (s t : List ℕ) (is : IsString 64 s) (it : IsString 64 t) where
  pub same_test : same_words s t ≡ eqb (rank s) (rank t)
  same_test = elim (in_order s t) [
    | inl less ↦ (same-not s t less).0 ∙ sym (ne_eqb (rank s) (rank t)
        (λ e. omega (arith, e, rank_before 64 s t it.fits is.bytes it.bytes less)))
    | inr (inl one) ↦ ap (same_words s) (sym one) ∙ same-refl s ∙ sym (eq-eqb (rank s) (rank t) (ap rank one))
    | inr (inr more) ↦ (same-not t s more).1 ∙ sym
        (ne_eqb (rank s) (rank t) (λ e. omega (arith, e, rank_before 64 t s is.fits it.bytes is.bytes more)))
  ]

  pub before_test : before s t ≡ ltb (rank s) (rank t)
  before_test = elim (in_order s t) [
    | inl less ↦ (before-is s t less).0 ∙ sym (lt-ltb (rank s) (rank t) (rank_before 64 s t it.fits is.bytes it.bytes less))
    | inr (inl one) ↦ ap (before s) (sym one) ∙ before-not s
        ∙ sym (not_less (rank s) (rank t) (let e : rank s ≡ rank t = ap rank one in omega (arith, e)))
    | inr (inr more) ↦ (before-is t s more).1 ∙ sym
        (not_less (rank s) (rank t) (let lt = rank_before 64 t s is.fits it.bytes is.bytes more in omega (arith, lt)))
  ]
    where
      not_less : (a b : ℕ) → b ≤ a → ltb a b ≡ false
      not_less a b le = grind (arith, nat_tests, le)

-- what a map over strings finds, and how it changes, is what the map over ranks does
pub lookup_is : (m : List KeyEntry) (s : List ℕ) → AreKeys m → IsString 64 s → lookup_at (ranks_of m) (rank s) ≡ lookup_key m s
lookup_is [] s keys is = refl
lookup_is (e ∷ es) s keys is = rw (same_test s e.0 is keys.0, lookup_is es s keys.1 is) refl

put_cases : (e : KeyEntry) (es : List KeyEntry) (s : List ℕ) (v : ℕ) (less same : Bool)
    → put_pair (ranks_of es) (rank s) v ≡ ranks_of (put_key es s v)
    → (if less then (rank s, v) ∷ (rank e.0, e.1) ∷ ranks_of es else (if same then (rank s, v) ∷ ranks_of es else (rank e.0, e.1) ∷ put_pair
    (ranks_of es) (rank s) v))
    ≡ ranks_of (if less then (s, v) ∷ e ∷ es else (if same then (s, v) ∷ es else e ∷ put_key es s v))
put_cases e es s v true same rest = refl
put_cases e es s v false true rest = refl
put_cases e es s v false false rest = ap (λ (l : Pairs). (rank e.0, e.1) ∷ l) rest

pub put_is : (m : List KeyEntry) (s : List ℕ) (v : ℕ) → AreKeys m → IsString 64 s
    → put_pair (ranks_of m) (rank s) v ≡ ranks_of (put_key m s v)
put_is [] s v keys is = refl
put_is (e ∷ es) s v keys is = rw (before_test s e.0 is keys.0, same_test s e.0 is keys.0)
    (put_cases e es s v (ltb (rank s) (rank e.0)) (eqb (rank s) (rank e.0)) (put_is es s v keys.1 is))

del_cases : (e : KeyEntry) (es : List KeyEntry) (s : List ℕ) (same : Bool) → del_pair (ranks_of es) (rank s) ≡ ranks_of (del_key es s)
    → (if same then ranks_of es else (rank e.0, e.1) ∷ del_pair (ranks_of es) (rank s)) ≡ ranks_of (if same then es else e ∷ del_key es s)
del_cases e es s true rest = refl
del_cases e es s false rest = ap (λ (l : Pairs). (rank e.0, e.1) ∷ l) rest

pub del_is : (m : List KeyEntry) (s : List ℕ) → AreKeys m → IsString 64 s → del_pair (ranks_of m) (rank s) ≡ ranks_of (del_key m s)
del_is [] s keys is = refl
del_is (e ∷ es) s keys is = rw (same_test s e.0 is keys.0) (del_cases e es s (eqb (rank s) (rank e.0)) (del_is es s keys.1 is))
