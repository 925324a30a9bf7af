-- The free-number words with which a table begins: which of their bits are set, and how the words are made.
use Rattle.std.proofs.lemmas.List.{set-append_right}
use Rattle.std.proofs.Math.Nat.{mod-eq_of_lt}
use Rattle.std.proofs.Math.Pow.{pow-lt}
use Rattle.vm_event.proofs.Masks.{inserted-free}
use Rattle.vm_rule.proofs.ListFacts.{at-listed, at-right}
use Rattle.vm_rule.proofs.Parts.{listed-upd}
use Rattle.vm_rule.proofs.Prelude.{[], ap, arith, at, bit_at, bit_at-zero, bit_or, Bool, eq-eqb, eqb, false}
use Rattle.vm_rule.proofs.Prelude.{free_words, get_or, has, has_free_bit, if◌then◌else◌, length, List, listed, ne_eqb}
use Rattle.vm_rule.proofs.Prelude.{or-true, refl, slice_set, suc, sym, true, upd, upd-other, with_free, zero, ℕ, ◌%◌}
use Rattle.vm_rule.proofs.Prelude.{◌*◌, ◌++◌, ◌+◌, ◌-◌, ◌/◌, ◌<◌, ◌^◌, ◌||◌, ◌∙◌, ◌∷◌, ◌≡◌, ◌≢◌}

-- ---- which bits are set

-- a page more
with_free-more : (words : ℕ → ℕ) (free : List ℕ) (p : ℕ) → with_free words (free ++ p ∷ []) ≡ upd
    (with_free words free) (p / 64) (bit_or (with_free words free (p / 64)) (2 ^ (p % 64)))
unfolding with_free
with_free-more words [] p = refl
with_free-more words (q ∷ qs) p = with_free-more (upd words (q / 64) (bit_or (words (q / 64)) (2 ^ (q % 64)))) qs p

-- a word of none of the pages is as it was
pub with_free-other : (words : ℕ → ℕ) (free : List ℕ) (g : ℕ) → ((p : ℕ) → has p free ≡ true → p / 64 ≢ g)
    → with_free words free g ≡ words g
unfolding with_free
with_free-other words [] g none = refl
with_free-other words (q ∷ qs) g none =
    with_free-other (upd words (q / 64) (bit_or (words (q / 64)) (2 ^ (q % 64)))) qs g
    (λ p e. none p (ap (λ b. eqb p q || b) e ∙ or-true (eqb p q)))
    ∙ upd-other words (q / 64) (bit_or (words (q / 64)) (2 ^ (q % 64))) g (λ e. none q (ap (λ b. b || has q qs) (eq-eqb q q refl)) (sym e))

single-bit : (k : ℕ) → k < 64 → 1 * 2 ^ k % 2 ^ 64 ≡ 2 ^ k
single-bit k l = let one : 1 * 2 ^ k ≡ 2 ^ k = omega arith in ap (λ n. n % 2 ^ 64) one ∙ mod-eq_of_lt (pow-lt {j = 64} l)

-- the bit of one page is set
one-set : (words : ℕ → ℕ) (q p : ℕ) → has_free_bit (upd words (q / 64) (bit_or (words (q / 64)) (2 ^ (q % 64))))
    p ≡ (if eqb p q then true else has_free_bit words p)
unfolding upd
one-set words q p =
    ap (λ y. has_free_bit (upd words (q / 64) (bit_or (words (q / 64)) y)) p) (sym (single-bit (q % 64) (omega arith)))
    ∙ ap (λ (f : ℕ → Bool). f p) (inserted-free words q (words (q / 64)) refl)

mixed : (a b c : Bool) → (b || (if a then true else c)) ≡ ((a || b) || c)
mixed true true c = refl
mixed true false c = refl
mixed false true c = refl
mixed false false c = refl

or-nothing : (a : Bool) → (a || false) ≡ a
or-nothing true = refl
or-nothing false = refl

-- those of the pages are set beside those that were
free-bits : (words : ℕ → ℕ) (free : List ℕ) (p : ℕ)
    → has_free_bit (with_free words free) p ≡ (has p free || has_free_bit words p)
unfolding with_free
free-bits words [] p = refl
free-bits words (q ∷ qs) p =
    free-bits (upd words (q / 64) (bit_or (words (q / 64)) (2 ^ (q % 64)))) qs p
    ∙ ap (λ b. has p qs || b) (one-set words q p)
    ∙ mixed (eqb p q) (has p qs) (has_free_bit words p)

no-bit : (p : ℕ) → has_free_bit (λ g. 0) p ≡ false
unfolding has_free_bit
no-bit p = ne_eqb (bit_at 0 (p % 64)) 1 (λ e. let z : bit_at 0 (p % 64) ≡ 0 = bit_at-zero (p % 64) in omega (arith, e, z))

-- the bits set are those of the pages
pub free_words-bits : (free : List ℕ) (p : ℕ) → has_free_bit (free_words free) p ≡ has p free
free_words-bits free p = free-bits (λ g. 0) free p ∙ ap (λ b. has p free || b) (no-bit p) ∙ or-nothing (has p free)

-- ---- how they are made

-- an element of a list is in it
pub has-item : (l : List ℕ) (i d : ℕ) → i < length l → has (get_or l i d) l ≡ true
has-item [] i d lt = absurd (omega (arith, lt))
has-item (x ∷ xs) zero d lt = ap (λ b. b || has x xs) (eq-eqb x x refl)
has-item (x ∷ xs) (suc i) d lt =
    ap (λ b. eqb (get_or xs i d) x || b) (has-item xs i d (omega (arith, lt))) ∙ or-true (eqb (get_or xs i d) x)

-- a value behind a list is set
set-listed : (before : List ℕ) (n : ℕ) (f : ℕ → ℕ) (i k x : ℕ) → i ≡ length before + k → k < n
    → slice_set (before ++ listed n f) i x ≡ before ++ listed n (upd f k x)
set-listed before n f i k x e l =
    let rest : i - length before ≡ k = omega arith in
    set-append_right before (listed n f) (length before) i x refl (omega arith)
    ∙ ap (λ j. before ++ slice_set (listed n f) j x) rest
    ∙ ap (λ (t : List ℕ). before ++ t) (sym (listed-upd n f k x l))

-- the bit of a page more is set, in words that stand behind a list
pub free-pushed : (before items after free : List ℕ) (n i p x : ℕ) → items ≡ before ++ listed n (free_words free)
    → i ≡ length before + p / 64 → p / 64 < n → at 0 items i ≡ x
    → after ≡ slice_set items i (bit_or x (1 * 2 ^ (p % 64) % 2 ^ 64))
    → after ≡ before ++ listed n (free_words (free ++ p ∷ []))
free-pushed before items after free n i p x was place l found is =
    let there : at 0 (before ++ listed n (free_words free)) i ≡ free_words free (p / 64) =
    at-right 0 before (listed n (free_words free)) i (p / 64) place ∙ at-listed 0 n (free_words free) (p / 64) l in
    let word : x ≡ free_words free (p / 64) = sym found ∙ ap (λ (t : List ℕ). at 0 t i) was ∙ there in
    is
    ∙ ap (λ (t : List ℕ). slice_set t i (bit_or x (1 * 2 ^ (p % 64) % 2 ^ 64))) was
    ∙ set-listed before n (free_words free) i (p / 64) (bit_or x (1 * 2 ^ (p % 64) % 2 ^ 64)) place l
    ∙ ap (λ f. before ++ listed n f)
    ((λ j. upd (free_words free) (p / 64) (bit_or (word j) (single-bit (p % 64) (omega arith) j))) ∙ sym (with_free-more (λ g. 0) free p))

-- no page yet
pub free-none : (before items : List ℕ) (n : ℕ) → items ≡ before ++ listed n (λ g. 0)
    → items ≡ before ++ listed n (free_words [])
unfolding with_free
free-none before items n e = e
