-- The words of a string, one by one.
use Rattle.std.proofs.Common.{◌≡◌, ℕ, zero, suc, ◌+◌, ◌-◌, ◌*◌, ◌<◌, List, [], ◌∷◌, ◌++◌, length, get_or, min, take, drop, replicate, refl}
use Rattle.std.proofs.Common.{sym, ap, ◌∙◌, arith, length-drop}
use Rattle.std.proofs.lemmas.List.{drop-drop, length-take, take_min}
use Rattle.std.specs.Int.{w64, from_be_bytes}
use Rattle.vm_bytes_form.specs.Cuts.{words_for}
use Rattle.vm_bytes_form.specs.Forms.{key_block, padded, string_words}

padded-none : (n : ℕ) → padded n [] ≡ replicate n 0
padded-none zero = refl
padded-none (suc n) = ap (λ (l : List ℕ). 0 ∷ l) (padded-none n)

padded-is : (n : ℕ) (t : List ℕ) → padded n t ≡ take n t ++ drop (length (take n t)) (replicate n 0)
padded-is zero t = refl
padded-is (suc n) [] = padded-none (suc n)
padded-is (suc n) (b ∷ t) = ap (λ (l : List ℕ). b ∷ l) (padded-is n t)

word-of : (n i : ℕ) (s : List ℕ) → i < n → get_or (string_words n s) i 0 ≡ from_be_bytes w64 (padded 8 (drop (8 * i) s))
word-of zero i s lt = absurd (omega (arith, lt))
word-of (suc n) zero s lt = refl
word-of (suc n) (suc i) s lt =
    let next : 8 + 8 * i ≡ 8 * suc i = omega arith in
    word-of n i (drop 8 s) (omega (arith, lt)) ∙ ap (λ (t : List ℕ). from_be_bytes w64 (padded 8 t)) (drop-drop (8 * i) 8 s
    ∙ ap (λ (m : ℕ). drop m s) next)

-- a word of a string is that of its bytes from a place on, with zeros behind its end
pub block_word : (s bytes : List ℕ) (i count k : ℕ) → i < words_for (length s) → count ≡ min (length s - 8 * i) 8 → k ≡ count
    → bytes ≡ take k (drop (8 * i) s)
    → from_be_bytes w64 (bytes ++ drop count (replicate 8 0)) ≡ get_or (key_block s) i 0
block_word s bytes i count k inside few is room_taken =
    let t = drop (8 * i) s in
    let all : take k t ≡ take 8 t = (let same : k ≡ min 8 (length t) = omega (arith, few, is, length-drop (8 * i) s) in
    ap (λ (m : ℕ). take m t) same ∙ take_min 8 t) in
    let long : count ≡ length (take 8 t) = omega (arith, few, length-drop (8 * i) s, length-take 8 t) in
    ap (from_be_bytes w64) (ap (λ (l : List ℕ). l ++ drop count (replicate 8 0)) (room_taken ∙ all)
    ∙ ap (λ (m : ℕ). take 8 t ++ drop m (replicate 8 0)) long ∙ sym (padded-is 8 t))
    ∙ sym (word-of (words_for (length s)) i s inside)
