-- A pool may begin with blocks of zeros, whatever its next page is and whichever numbers are free.
use Rattle.std.proofs.Common.{[], ⊎_elim, ◌++◌, ◌<◌, ◌||◌, ◌∙◌, ◌∷◌, ◌≡◌, ◌≢◌, ◌≤◌, ap, arith, Bool, length, List}
use Rattle.std.proofs.Common.{map, refl, replicate, subst, suc, sym, true, zero, ℕ}
use Rattle.std.proofs.lemmas.{Bool.cases_eq, Bool.cases_lt, Bool.false≢true, Bool.ne_eqb, List.length-replicate}
use Rattle.vm_page.specs.Pages.{all_zero}
use Rattle.vm_event.specs.Prelude.{page_at}
use Rattle.vm_rule.specs.Prelude.{AreClaimed, block_words, Each, has, Kept, MayBegin, MemBlock, Start, Stored, stored_of, words_of}
use Rattle.vm_rule.proofs.{ListFacts.length-mapped, NumberReleases.zeros-are}

abbrev AllZero : List (List ℕ) → Type 0
AllZero pages = (p : ℕ) → p < length pages → page_at pages p ≡ replicate (length (page_at pages p)) 0

zero-more : (pages : List (List ℕ)) (words : List ℕ) → AllZero pages → words ≡ replicate (length words) 0 → AllZero (pages ++ words ∷ [])
zero-more [] words z e zero l = e
zero-more [] words z e (suc p) l = absurd (omega (arith, l))
zero-more (x ∷ pages) words z e zero l = z zero (omega arith)
zero-more (x ∷ pages) words z e (suc p) l =
    zero-more pages words (λ q m. z (suc q) (omega (arith, m))) e p (omega (arith, l))

words-more : {n : ℕ} (blocks : List (MemBlock n)) (b : MemBlock n)
    → block_words (map stored_of (blocks ++ b ∷ [])) ≡ block_words (map stored_of blocks) ++ words_of b ∷ []
words-more [] b = refl
words-more (x ∷ blocks) b = ap (λ (l : List (List ℕ)). words_of x ∷ l) (words-more blocks b)

-- a page past the last one has no words
past-last : (pages : List (List ℕ)) (p : ℕ) → length pages ≤ p → page_at pages p ≡ []
past-last [] p l = refl
past-last (x ∷ pages) zero l = absurd (omega (arith, l))
past-last (x ∷ pages) (suc p) l = past-last pages p (omega (arith, l))

each-zero : (pages : List (List ℕ)) → AllZero pages → (p : ℕ) → all_zero (page_at pages p) ≡ true
each-zero pages z p =
    ⊎_elim
    (λ (l : p < length pages). ap all_zero (z p l) ∙ zeros-are (length (page_at pages p)))
    (λ (l : length pages ≤ p). ap all_zero (past-last pages p l))
    (cases_lt p (length pages))

-- free numbers that are each below the next page
pub each-claimed : (next : ℕ) (free : List ℕ) → Each (λ n. n < next) free → AreClaimed next free
each-claimed next [] each p e = absurd (false≢true e)
each-claimed next (x ∷ free) each p e =
    ⊎_elim
    (λ (same : p ≡ x). subst (λ (n : ℕ). n < next) (sym same) each.0)
    (λ (ne : p ≢ x). each-claimed next free each.1 p (sym (ap (λ (b : Bool). b || has p free) (ne_eqb p x ne)) ∙ e))
    (cases_eq p x)

pub two-long : (n : ℕ) (none one two : List (MemBlock n)) (a b : MemBlock n) → none ≡ [] → one ≡ none ++ a ∷ []
    → two ≡ one ++ b ∷ [] → length two ≡ 2
two-long n none one two a b first then last =
    ap length (last ∙ ap (λ (l : List (MemBlock n)). l ++ b ∷ [])
    (then ∙ ap (λ (l : List (MemBlock n)). l ++ a ∷ []) first))

module _ {X : Type 0} (keeps : Start → Kept X → Type 0) (all : (start : Start) (kept : Kept X) → keeps start kept) where
  zeros-begin : (pages : List (List ℕ)) → AllZero pages → (next : ℕ) (free : List ℕ) → MayBegin keeps next free pages
  zeros-begin pages z next free = record { zero = λ p l m. z p m; spare = λ p e. each-zero pages z p; kept = all _ _ }

  -- where every page is claimed and no number is free, whatever the words are
  pub claimed-begin : (n next : ℕ) (blocks : List (MemBlock n)) → length blocks ≡ next
      → MayBegin keeps next [] (block_words (map stored_of blocks))
  claimed-begin n next blocks count =
      let mapped = length-mapped stored_of blocks in
      let long : length (block_words (map stored_of blocks)) ≡ next = length-mapped (λ (b : Stored). b.words)
      (map stored_of blocks) ∙ mapped ∙ count in
      record { zero = λ p l m. absurd (omega (arith, l, m, long)); spare = λ p e. absurd (false≢true e); kept = all _ _ }

  -- a block of zeros more
  pub more-begins : (n : ℕ) (blocks after : List (MemBlock n)) (b : MemBlock n) → after ≡ blocks ++ b ∷ [] → words_of b ≡ replicate n 0
      → ((next : ℕ) (free : List ℕ) → MayBegin keeps next free (block_words (map stored_of blocks)))
      → (next : ℕ) (free : List ℕ) → MayBegin keeps next free (block_words (map stored_of after))
  more-begins n blocks after b is e begins next free =
      let long : n ≡ length (words_of b) = sym (ap length e ∙ length-replicate {A = ℕ} n 0) in
      subst (MayBegin keeps next free) (sym (ap (λ (l : List (MemBlock n)). block_words (map stored_of l)) is ∙ words-more blocks b))
      (zeros-begin _ (zero-more (block_words (map stored_of blocks)) (words_of b)
      (λ q h. (begins 0 []).zero q (omega arith) h) (e ∙ ap (λ (k : ℕ). replicate k 0) long)) next free)
