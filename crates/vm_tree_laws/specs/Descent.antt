-- Where a coupled descent stands.
use Rattle.std.specs.Prelude.{◌≡◌, ◌⊎◌, ℕ, ◌<◌, ◌≤◌, List, [], ◌∷◌, Some}
use Rattle.vm_tree_model.specs.Layout.{Layout}
use Rattle.vm_tree_model.specs.Node.{Covers}
use Rattle.vm_tree_model.specs.Page.{node_of, IsLeaf, IsInner}
use Rattle.vm_tree_model.specs.Edits.{child_of}
use Rattle.vm_tree_laws.specs.Tied.{IsNodeAs, IsTied}

-- Page p of so many pages, which was validated with these words, is a node of this level that covers the key
pub record IsReached (L : Layout) (pages p : ℕ) (words : List ℕ) (level key : ℕ) : Type 0 where
  pub from_one : 1 ≤ p
  pub in_range : p < pages
  pub kind : IsLeaf L words ⊎ IsInner L words
  pub level_is : (node_of L words).level ≡ level
  pub covers : Covers (node_of L words) key

-- it is a node of this level with these fences
pub record IsReachedAs (L : Layout) (pages p : ℕ) (words : List ℕ) (level low high : ℕ) : Type 0 where
  pub from_one : 1 ≤ p
  pub in_range : p < pages
  pub node : IsNodeAs L words level low high

-- the pages below page r on the way of a key to its leaf, each validated at the version that was seen before its parent was validated
abbrev pub IsWay : Layout → ℕ → ℕ → List (ℕ × List ℕ) → ℕ → List ℕ → Type 0
IsWay L pages key [] r words = (node_of L words).tag ≡ 2
IsWay L pages key (step ∷ steps) r words = ((node_of L words).tag ≡ 3) × (child_of L words key ≡ Some step.0)
    × IsTied L pages r words step.0 step.1 × IsWay L pages key steps step.0 step.1

-- the words of the last page
abbrev pub last_words : List (ℕ × List ℕ) → List ℕ → List ℕ
last_words [] words = words
last_words (step ∷ steps) words = last_words steps step.1
