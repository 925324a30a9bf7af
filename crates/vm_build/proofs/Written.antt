-- The words of a node as they are written: a header over zeros, then two words for each entry.
use Rattle.std.proofs.Common.{◌≡◌, ℕ, suc, ◌+◌, ◌-◌, ◌*◌, ◌<◌, ◌≤◌, List, [], ◌∷◌, ◌++◌, length, take}
use Rattle.std.proofs.Common.{replicate, get_or, slice_set, Bool, true, false, not, Option, Some, None}
use Rattle.std.proofs.Common.{unwrap_or, is_some, is_none, ◌==◌, if◌then◌else◌, refl, ◌∙◌, ap, subst, arith}
use Rattle.std.proofs.Common.{length-take}
use mir.Val.{bool_byte}
use Rattle.std.proofs.lemmas.List.{append_assoc, take_more}
use Rattle.vm_map.specs.Map.{Pairs}
use Rattle.vm_build.specs.Levels.{pair_words}
use Rattle.vm_build.proofs.Sizes.{length-pair_words}
use Rattle.vm_page.specs.Sizes.{IsSize}
use Rattle.vm_build.specs.Levels.{fill_of}
use Rattle.vm_node.proofs.Sizes.{whole}
use Rattle.vm_build.proofs.Fill.{fill_fits}
use Rattle.vm_build.proofs.Nodes.{zero_at}

-- the eight words of a header, and those behind it
abbrev pub headed : ℕ → ℕ → Option ℕ → ℕ → List ℕ → List ℕ
headed level low high count rest = (if level == 0 then 2 else 3) ∷ count ∷ low ∷ unwrap_or high
    0 ∷ (if is_none high then 1 else 0) ∷ level ∷ 0 ∷ 0 ∷ rest

zeros_are : (words : List ℕ) → ((i : ℕ) → get_or words i 0 ≡ 0) → words ≡ replicate (length words) 0
zeros_are [] free = refl
zeros_are (w ∷ ws) free = rw (free 0) (ap (λ (l : List ℕ). 0 ∷ l) (zeros_are ws (λ i. free (suc i))))

-- the word that tells that there is no high fence
pub endless_is : (high : Option ℕ) (b : Bool) → is_some high ≡ not b → bool_byte b ≡ (if is_none high then 1 else 0)
endless_is None true is = refl
endless_is None false is = absurd (cc)
endless_is (Some h) true is = absurd (cc)
endless_is (Some h) false is = refl

words_of-push : (run : Pairs) (e : ℕ × ℕ) → pair_words (run ++ e ∷ []) ≡ pair_words run ++ e.0 ∷ e.1 ∷ []
words_of-push [] e = refl
words_of-push (f ∷ fs) e = ap (λ (l : List ℕ). f.0 ∷ f.1 ∷ l) (words_of-push fs e)

-- two words are written over those behind a front
put_two : (front rest : List ℕ) (at k v a b : ℕ) → length front ≡ at
    → slice_set (slice_set (front ++ a ∷ b ∷ rest) at k) (at + 1) v ≡ front ++ k ∷ v ∷ rest
put_two front rest at k v a b long =
    subst (λ n. slice_set (slice_set (front ++ a ∷ b ∷ rest) n k) (n + 1) v ≡ front ++ k ∷ v ∷ rest) long (go front)
  where
    go : (front : List ℕ) → slice_set (slice_set (front ++ a ∷ b ∷ rest) (length front) k) (length front + 1) v ≡ front ++ k ∷ v ∷ rest
    go [] = refl
    go (x ∷ xs) = let next : suc (length xs) + 1 ≡ suc (length xs + 1) = omega arith in rw next (ap (λ (l : List ℕ). x ∷ l) (go xs))

module _ (z : ℕ) where
  -- a node with its header and the first n entries of its run
  abbrev pub written : ℕ → ℕ → Option ℕ → Pairs → ℕ → List ℕ
  written level low high run n = headed level low high (length run) (pair_words (take n run) ++ replicate (z - 8 - 2 * n) 0)

module _ (z : ℕ) (size : IsSize z) where
  -- a page of zeros with a header is a node with none of its entries
  pub written_first : (page zeros : List ℕ) (level low : ℕ) (high : Option ℕ) (run : Pairs) → length page ≡ z
      → get_or page 0 0 ≡ (if level == 0 then 2 else 3) → get_or page 1 0 ≡ length run → get_or page 2 0 ≡ low
      → get_or page 3 0 ≡ unwrap_or high 0 → get_or page 4 0 ≡ (if is_none high then 1 else 0)
      → get_or page 5 0 ≡ level → ((i : ℕ) → 6 ≤ i → get_or page i 0 ≡ get_or zeros i 0) → zeros ≡ replicate z 0
      → page ≡ written z level low high run 0
  written_first page zeros level low high run long tag count fence above endless place free none =
      go page long tag count fence above endless place (λ i from. free i from ∙ ap (λ (l : List ℕ). get_or l i 0) none
      ∙ zero_at z i)
    where
      go : (page : List ℕ) → length page ≡ z → get_or page 0 0 ≡ (if level == 0 then 2 else 3)
          → get_or page 1 0 ≡ length run → get_or page 2 0 ≡ low
          → get_or page 3 0 ≡ unwrap_or high 0 → get_or page 4 0 ≡ (if is_none high then 1 else 0)
          → get_or page 5 0 ≡ level → ((i : ℕ) → 6 ≤ i → get_or page i 0 ≡ 0)
          → page ≡ written z level low high run 0
      go (a ∷ b ∷ c ∷ d ∷ e ∷ f ∷ rest) long tag count fence above endless place free =
          let zeros : rest ≡ replicate (length rest) 0 = zeros_are rest (λ i. free (suc (suc (suc (suc (suc (suc i)))))) (omega arith)) in
          let left : length rest ≡ suc (suc (z - 8 - 2 * 0)) = omega (arith, long, whole z size) in
          rw (tag, count, fence, above, endless, place, zeros, left) refl
      go _ long tag count fence above endless place free = absurd (omega (arith, long, whole z size))

  -- one entry more is written
  pub written_more : (page : List ℕ) (level low : ℕ) (high : Option ℕ) (run : Pairs) (i : ℕ) (e : ℕ × ℕ)
      → page ≡ written z level low high run i → i < length run → length run ≤ fill_of z → e ≡ get_or run i e
      → slice_set (slice_set page (8 + 2 * i) e.0) (9 + 2 * i) e.1 ≡ written z level low high run (i + 1)
  written_more page level low high run i e is lt few at =
      let done = pair_words (take i run) in
      let left = z - 8 - 2 * (i + 1) in
      let free : z - 8 - 2 * i ≡ suc (suc left) = omega (arith, lt, few, fill_fits z size, whole z size) in
      let next : 9 + 2 * i ≡ 8 + 2 * i + 1 = omega arith in
      let long : length (headed level low high (length run) done) ≡ 8 + 2 * i =
      omega (arith, length-pair_words (take i run), length-take i run, lt) in
      let all : pair_words (take (i + 1) run) ≡ done ++ e.0 ∷ e.1 ∷ [] = rw (take_more run i e lt, ← at) (words_of-push (take i run) e) in
      rw (is, free, next, all, append_assoc)
      (put_two (headed level low high (length run) done) (replicate left 0) (8 + 2 * i) e.0 e.1 0 0 long)
