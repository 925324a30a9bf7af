-- Texts of keys: which bytes they lack, and that one is that of one key.
use Rattle.std.proofs.Common.{[], ◌&&◌, ◌*◌, ◌/◌, ◌%◌, ◌<◌, ◌∙◌, ◌∷◌, ◌≡◌, ap, arith, Bool, Err, false, inl, inr, length, List, Ok}
use Rattle.std.proofs.Common.{refl, Result, slice_index, suc, sym, true, zero, ℕ}
use Rattle.std.specs.Prelude.{is_err, MatchResult, nat_lt}
use Rattle.std.proofs.lemmas.Bool.{and_parts, cases_lt, ltb-true}
use Rattle.hex.specs.Hex.{decode_of, decode_sized, encode_lower, encode_with, IsBytes, lower_digits}
use Rattle.hex.specs.declared.error.FromHexError.{FromHexError}
use Rattle.hex.proofs.HexLemmas.{decode_of-encode_lower, decode_of-same, decode_sized-encode_lower, length-encode_with}
use Rattle.vm_bytes_form.specs.Strings.{AreBytes, IsString}
use Rattle.vm_bytes_text.specs.KeyTexts.{key_text}
use Rattle.vm_script.specs.Cuts.{Lacks}

pub bytes_are : (s : List ℕ) → AreBytes s → IsBytes s
bytes_are [] each i = omega arith
bytes_are (b ∷ s) each zero = each.0
bytes_are (b ∷ s) each (suc i) = bytes_are s each.1 i

-- the first n digits stand behind all signs and spaces
abbrev all_high : ℕ → Bool
all_high zero = true
all_high (suc n) = nat_lt 47 (slice_index lower_digits n) && all_high n

high_at : (n k : ℕ) → all_high n ≡ true → k < n → 47 < slice_index lower_digits k
high_at zero k all lt = absurd (omega arith)
high_at (suc n) k all lt =
    let parts = and_parts (nat_lt 47 (slice_index lower_digits n)) (all_high n) all in
    elim (cases_lt k n) [
      | inl below ↦ high_at n k parts.1 below
      | inr top ↦
          let last : k ≡ n = omega arith in
          rw last (ltb-true 47 (slice_index lower_digits n) parts.0)
    ]

digit_high : (d : ℕ) → d < 16 → 47 < slice_index lower_digits d
digit_high d lt = high_at 16 d refl lt

lacks_digits : (at : ℕ) (s : List ℕ) → at < 48 → AreBytes s → Lacks at (encode_lower s)
unfolding encode_with
lacks_digits at [] low each = tt
lacks_digits at (b ∷ s) low each =
    let high = digit_high (b / 16) (omega (arith, each.0)) in
    let last = digit_high (b % 16) (omega (arith, each.0)) in
    (λ e. omega (arith, high, low, e), (λ e. omega (arith, last, low, e), lacks_digits at s low each.1))

pub lacks_key : (at : ℕ) (key : List ℕ) → at < 45 → IsString 64 key → Lacks at (key_text key)
lacks_key at [] low is = (λ e. omega (arith, low, e), tt)
lacks_key at (b ∷ s) low is = lacks_digits at (b ∷ s) (omega (arith, low)) is.bytes

-- the text of a key that is not empty has two digits for each of its bytes
pub length_text : (b : ℕ) (s : List ℕ) → length (key_text (b ∷ s)) ≡ 2 * length (b ∷ s)
length_text b s = length-encode_with lower_digits (b ∷ s)

pub one_key : (a b : List ℕ) → IsString 64 a → IsString 64 b → key_text a ≡ key_text b → a ≡ b
one_key [] [] is_a is_b e = refl
one_key [] (y ∷ t) is_a is_b e = absurd (omega (arith, ap length e, length_text y t))
one_key (x ∷ s) [] is_a is_b e = absurd (omega (arith, ap length e, length_text x s))
one_key (x ∷ s) (y ∷ t) is_a is_b e = decode_of-same (encode_lower (x ∷ s)) (x ∷ s) (y ∷ t)
    (decode_of-encode_lower (x ∷ s) (bytes_are (x ∷ s) is_a.bytes))
    (ap decode_of e ∙ decode_of-encode_lower (y ∷ t) (bytes_are (y ∷ t) is_b.bytes))

decoded : (text out key : List ℕ) (r : Result Unit FromHexError) (d : Result (List ℕ) FromHexError)
    → MatchResult d (λ bytes. (r ≡ Ok tt) × (out ≡ bytes)) (λ err. r ≡ Err err) → d ≡ Ok key → (r ≡ Ok tt) × (out ≡ key)
decoded text out key r (Ok bytes) told e = let same : bytes ≡ key = cc in (told.0, told.1 ∙ same)
decoded text out key r (Err err) told e = cc e

-- the text of a key is decoded to it, in a room of its length
pub decoded_is : (text room out key : List ℕ) (r : Result Unit FromHexError)
    → MatchResult (decode_sized text (length room)) (λ bytes. (r ≡ Ok tt) × (out ≡ bytes)) (λ err. r ≡ Err err)
    → length room ≡ length key → IsBytes key → text ≡ encode_lower key → (r ≡ Ok tt) × (out ≡ key)
decoded_is text room out key r told long each e = decoded text out key r (decode_sized text (length room)) told
    (ap (λ (t : List ℕ). decode_sized t (length room)) e ∙ decode_sized-encode_lower key (length room) (sym long) each)

pub not_refused : (r : Result Unit FromHexError) → r ≡ Ok tt → true ≡ is_err r → ⊥
not_refused r read refused = cc

pub apart : false ≡ true → ⊥
apart e = cc
