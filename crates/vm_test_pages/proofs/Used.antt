-- Blocks of pages that are in use: a word of each is not 0.
use Rattle.std.proofs.Common.{[], ◌++◌, ◌<◌, ◌∙◌, ◌∷◌, ◌≡◌, ◌≢◌, ap, arith, false, get_or-set_same, length, List, map}
use Rattle.std.proofs.Common.{refl, replicate, slice_set, subst, suc, sym, zero, ℕ}
use Rattle.std.proofs.lemmas.List.{length-replicate}
use Rattle.vm_page.specs.Pages.{all_zero, page_at}
use Rattle.vm_rule.specs.Prelude.{block_words, MemBlock, stored_of, words_of}
use Rattle.vm_guard.proofs.InUse.{word-used}

-- a page of zeros of which a word was set
pub set-used : (n i w : ℕ) → i < n → w ≢ 0 → all_zero (slice_set (replicate n 0) i w) ≡ false
set-used n i w l some =
    let inside : i < length (replicate {A = ℕ} n 0) = omega (arith, l, length-replicate {A = ℕ} n 0) in
    word-used (slice_set (replicate n 0) i w) i (λ e. some (sym (get_or-set_same (replicate n 0) i w 0 inside) ∙ e))

abbrev AreUsed : List (List ℕ) → Type 0
AreUsed pages = (p : ℕ) → p < length pages → all_zero (page_at pages p) ≡ false

page-more : (pages : List (List ℕ)) (words : List ℕ) → AreUsed pages → all_zero words ≡ false → AreUsed (pages ++ words ∷ [])
page-more [] words each used zero l = used
page-more [] words each used (suc p) l = absurd (omega (arith, l))
page-more (x ∷ pages) words each used zero l = each zero (omega arith)
page-more (x ∷ pages) words each used (suc p) l = page-more pages words (λ q m. each (suc q) (omega (arith, m))) used p (omega (arith, l))

words-more : {n : ℕ} (blocks : List (MemBlock n)) (b : MemBlock n)
    → block_words (map stored_of (blocks ++ b ∷ [])) ≡ block_words (map stored_of blocks) ++ words_of b ∷ []
words-more [] b = refl
words-more (x ∷ blocks) b = ap (λ (l : List (List ℕ)). words_of x ∷ l) (words-more blocks b)

-- a block more
pub used-more : (n : ℕ) (blocks after : List (MemBlock n)) (b : MemBlock n) → after ≡ blocks ++ b ∷ []
    → AreUsed (block_words (map stored_of blocks)) → all_zero (words_of b) ≡ false
    → AreUsed (block_words (map stored_of after))
used-more n blocks after b is each used =
    subst AreUsed (sym (ap (λ (l : List (MemBlock n)). block_words (map stored_of l)) is ∙ words-more blocks b))
    (page-more (block_words (map stored_of blocks)) (words_of b) each used)

-- the second of two blocks
pub second-used : (n : ℕ) (none one two : List (MemBlock n)) (a b : MemBlock n) → none ≡ [] → one ≡ none ++ a ∷ []
    → two ≡ one ++ b ∷ [] → all_zero (words_of b) ≡ false
    → all_zero (page_at (block_words (map stored_of two)) 1) ≡ false
second-used n none one two a b first then last used =
    let both : two ≡ a ∷ b ∷ [] = last ∙ ap (λ (l : List (MemBlock n)). l ++ b ∷ [])
    (then ∙ ap (λ (l : List (MemBlock n)). l ++ a ∷ []) first) in
    ap (λ (l : List (MemBlock n)). all_zero (page_at (block_words (map stored_of l)) 1)) both ∙ used
