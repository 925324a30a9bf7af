-- The definitions compute the values that the formats give, and each reason of the checker holds of an image that is
-- built and then spoiled in
-- one word.
use Rattle.std.proofs.Common.{◌≡◌, ℕ, zero, suc, ◌+◌, List, [], ◌∷◌, map, take, replicate, set, Some, None, Ok, refl}
use Rattle.vm_map.specs.Map.{Pairs, gather}
use Rattle.vm_tree_model.specs.Fixed.{fixed}
use Rattle.vm_tree_model.specs.Tree.{page_at}
use Rattle.vm_tree_model.specs.Reason.{walk, walked, reason, used_pages}
use Rattle.vm_build.specs.Numbers.{next_number, numbered}
use Rattle.vm_build.specs.Build.{needed, built}

second : next_number 1 ≡ 7806831264735756412
second = refl

two_numbered : numbered 1 2 ≡ (1, 1) ∷ (7806831264735756412, 2) ∷ []
two_numbered = refl

-- no pairs, one full leaf, and two leaves under one root; 20 full leaves under one root, and one pair more: 21 leaves
-- under 2 nodes under one root; more
pages_needed : map (needed 64) (0 ∷ 20 ∷ 29 ∷ 400 ∷ 401 ∷ 1500 ∷ 100000 ∷ []) ≡ 2 ∷ 2 ∷ 4 ∷ 22 ∷ 25 ∷ 81 ∷ 5265 ∷ []
pages_needed = refl

-- of 512 words: one full leaf, two leaves under one root; 180 full leaves under one root, and one pair more; more
large_needed : map (needed 512) (0 ∷ 180 ∷ 181 ∷ 32400 ∷ 32401 ∷ 100000 ∷ []) ≡ 2 ∷ 2 ∷ 4 ∷ 182 ∷ 185 ∷ 562 ∷ []
large_needed = refl

-- the pairs (k, k) of so many numbers, from k on
abbrev same_pairs : ℕ → ℕ → Pairs
same_pairs zero k = []
same_pairs (suc n) k = (k, k) ∷ same_pairs n (k + 1)

-- no pairs: page 0, an empty leaf, and free pages
empty : built 64 8 [] ≡ (0x564D434143484531 ∷ 1 ∷ replicate 62 0) ∷ (2 ∷ 0 ∷ 0 ∷ 0 ∷ 1 ∷ replicate 59 0) ∷ replicate 6 (replicate 64 0)
empty = refl

empty_is_tree : reason (fixed 64) (built 64 8 []) ≡ None
unfolding walk
empty_is_tree = refl

-- two pairs: their rows, and the pages used
two_pairs : (walked (fixed 64) (built 64 8 (gather (numbered 1 2))) ≡ Ok ((1, 1) ∷ (7806831264735756412, 2) ∷ []))
    × (used_pages (built 64 8 (gather (numbered 1 2))) ≡ 2)
unfolding walk
two_pairs = (refl, refl)

-- 29 pairs on 5 pages: a leaf of 20, a leaf of 9, a root and a free page
abbrev two_leaves : List (List ℕ)
two_leaves = built 64 5 (same_pairs 29 1)

leaves_told : (walked (fixed 64) two_leaves ≡ Ok (same_pairs 29 1)) × (used_pages two_leaves ≡ 4)
unfolding walk
leaves_told = (refl, refl)

leaves_begin : map (λ p. take 10 (page_at two_leaves p)) (1 ∷ 2 ∷ []) ≡ (2 ∷ 20 ∷ 0 ∷ 21 ∷ 0 ∷ 0 ∷ 0 ∷ 0 ∷ 1 ∷ 1 ∷ [])
    ∷ (2 ∷ 9 ∷ 21 ∷ 0 ∷ 1 ∷ 0 ∷ 0 ∷ 0 ∷ 21 ∷ 21 ∷ []) ∷ []
leaves_begin = refl

root_and_meta : (page_at two_leaves 3 ≡ 3 ∷ 2 ∷ 0 ∷ 0 ∷ 1 ∷ 1 ∷ 0 ∷ 0 ∷ 0 ∷ 1 ∷ 21 ∷ 2 ∷ replicate 52 0)
    × (page_at two_leaves 0 ≡ 0x564D434143484531 ∷ 3 ∷ 1 ∷ replicate 61 0)
root_and_meta = (refl, refl)

-- word i of page p is w
abbrev with_word : List (List ℕ) → ℕ → ℕ → ℕ → List (List ℕ)
with_word pages p i w = set pages p (set (page_at pages p) i w)

-- a word of the image is another (its page, its place, the word), and the reason is this one (the page, the check)
abbrev spoiled : List ((ℕ × ℕ × ℕ) × ℕ × ℕ)
spoiled =
    -- another magic word; the root is past the end; the height is above the number of pages
    ((0, 0, 7), 0, 1) ∷ ((0, 1, 5), 0, 2) ∷ ((0, 2, 4), 0, 2) ∷
    -- a leaf is named twice; an inner node is at level 0; the low fence is above the first key
    ((3, 11, 1), 1, 3) ∷ ((2, 0, 3), 2, 4) ∷ ((2, 2, 22), 2, 5) ∷
    -- a word behind the pairs; a key twice; a child is past the end; a word in a free page
    ((1, 63, 1), 1, 6) ∷ ((1, 10, 1), 1, 7) ∷ ((3, 11, 5), 3, 8) ∷ ((4, 5, 1), 4, 9) ∷ []

reasons_found : map (λ (s : (ℕ × ℕ × ℕ) × ℕ × ℕ). reason (fixed 64) (with_word two_leaves s.0.0 s.0.1 s.0.2))
    spoiled ≡ map (λ (s : (ℕ × ℕ × ℕ) × ℕ × ℕ). Some (s.1, s.2)) spoiled
unfolding walk
reasons_found = refl

-- an inner node that names itself
names_itself : reason (fixed 64)
    ((0x564D434143484531 ∷ 1 ∷ 1 ∷ replicate 61 0) ∷ (3 ∷ 1 ∷ 0 ∷ 0 ∷ 1 ∷ 1 ∷ 0 ∷ 0 ∷ 0 ∷ 1 ∷ replicate 54 0)
    ∷ replicate 64 0 ∷ []) ≡ Some (1, 3)
unfolding walk
names_itself = refl
