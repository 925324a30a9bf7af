-- Pages for the samples, worked out by hand, and what they are.
use Rattle.std.proofs.Common.{◌≡◌, ℕ, zero, suc, ◌+◌, ◌-◌, ◌^◌, ◌≤◌, List, [], ◌∷◌, ◌++◌, length, get_or, replicate}
use Rattle.std.proofs.Common.{false, None, inl, inr, refl, arith}
use Rattle.vm_tree_model.specs.Fixed.{fixed}
use Rattle.vm_tree_model.proofs.FixedLaws.{layout_64}
use Rattle.vm_tree_model.specs.Page.{IsLeaf, IsInner}
use Rattle.vm_tree_model.specs.Tree.{page_at}
use Rattle.vm_tree_model.specs.Walk.{slot_fault}
use Rattle.vm_tree_model.proofs.Tests.{fills}

-- these words and then zeros, 64 words in all
abbrev pub page_from : List ℕ → List ℕ
page_from front = front ++ replicate (64 - length front) 0

-- n pairs of a key and the same number as its value, by rising key
abbrev pub pairs_from : ℕ → ℕ → List ℕ
pairs_from zero key = []
pairs_from (suc n) key = key ∷ key ∷ pairs_from n (key + 1)

-- page 0 of an image with this root and height
abbrev pub meta_page : ℕ → ℕ → List ℕ
meta_page root height = page_from (0x564D434143484531 ∷ root ∷ height ∷ [])

-- a leaf from low on and below high
abbrev pub bounded_leaf : ℕ → ℕ → ℕ → ℕ → List ℕ
bounded_leaf low high n key = page_from (2 ∷ n ∷ low ∷ high ∷ 0 ∷ 0 ∷ 0 ∷ 0 ∷ pairs_from n key)

-- a leaf from low on without a high fence
abbrev pub last_leaf : ℕ → ℕ → ℕ → List ℕ
last_leaf low n key = page_from (2 ∷ n ∷ low ∷ 0 ∷ 1 ∷ 0 ∷ 0 ∷ 0 ∷ pairs_from n key)

abbrev pub unused : ℕ → List (List ℕ)
unused n = replicate n (replicate 64 0)

pub unused_zero : (n p i : ℕ) → get_or (page_at (unused n) p) i 0 ≡ 0
unused_zero zero p i = refl
unused_zero (suc n) zero i = zeros 64 i
  where
    zeros : (n i : ℕ) → get_or {A = ℕ} (replicate n 0) i 0 ≡ 0
    zeros zero i = refl
    zeros (suc n) zero = refl
    zeros (suc n) (suc i) = zeros n i
unused_zero (suc n) (suc p) i = unused_zero n p i

-- a leaf whose words pass the walk's tests at level 0 is a leaf
pub leaf_from : (low high : ℕ) (words : List ℕ) → high ≤ 2 ^ 64 → slot_fault (fixed 64) 8 false (record {
  page = 1;
  level = 0;
  low = low;
  high = high;
}) words ≡ None → IsLeaf (fixed 64) words
leaf_from low high words upto none = elim (fills (fixed 64) layout_64 8 false (record {
  page = 1;
  level = 0;
  low = low;
  high = high;
}) words upto none).1.kind [
  | inl leaf ↦ leaf.1
  | inr inner ↦ absurd (omega (arith, inner.0))
]

-- the same of an inner node of level 1
pub inner_from : (low high : ℕ) (words : List ℕ) → high ≤ 2 ^ 64 → slot_fault (fixed 64) 8 false (record {
  page = 1;
  level = 1;
  low = low;
  high = high;
}) words ≡ None → IsInner (fixed 64) words
inner_from low high words upto none = elim (fills (fixed 64) layout_64 8 false (record {
  page = 1;
  level = 1;
  low = low;
  high = high;
}) words upto none).1.kind [
  | inl leaf ↦ absurd (omega (arith, leaf.0))
  | inr inner ↦ inner.1
]
