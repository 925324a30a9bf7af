-- Page files of either version: which bytes are one whose pages are a tree, and why others are refused. How many
-- words their pages have is told by their first bytes.
use Rattle.std.specs.Prelude.{◌≡◌, length, List, min, slice_index, Some, ℕ}
use Rattle.vm_map.specs.Map.{Pairs}
use Rattle.vm_tree_model.specs.{Fixed.fixed, Layout.Layout, Reason.reason, Reason.used_pages, Tree.IsTree, Tree.map_of}
use Rattle.vm_image.specs.File.{IsPageFile, pages_of_bytes, words_of_file}
use Rattle.vm_page.specs.Pages.{page_at}

-- the greatest number of bytes of a page file
abbrev pub most_image : ℕ
most_image = 33554432

-- the pages of a file
abbrev pub pages_of_file : List ℕ → List (List ℕ)
pages_of_file bytes = pages_of_bytes (words_of_file bytes) bytes

-- how their words mean nodes
abbrev pub layout_of_file : List ℕ → Layout
layout_of_file bytes = fixed (words_of_file bytes)

-- the bytes are a page file whose pages, read in this layout, are a tree
pub record IsTreeIn (L : Layout) (bytes : List ℕ) : Type 0 where
  pub file : IsPageFile L.words bytes
  pub tree : IsTree L (pages_of_bytes L.words bytes)

-- in the layout that their first bytes tell
abbrev pub IsTreeFile : List ℕ → Type 0
IsTreeFile bytes = IsTreeIn (layout_of_file bytes) bytes

-- the bytes are a page file of these pages of n words, which are a tree
pub record IsFileOf (n : ℕ) (pages : List (List ℕ)) (bytes : List ℕ) : Type 0 where
  pub words : words_of_file bytes ≡ n
  pub good : IsTreeFile bytes
  pub held : pages_of_file bytes ≡ pages

-- the bytes are a page file whose pages, read in this layout, are no tree, and this is the first reason
pub record HoldsNoTreeIn (L : Layout) (bytes : List ℕ) (page why : ℕ) : Type 0 where
  pub file : IsPageFile L.words bytes
  pub reason : reason L (pages_of_bytes L.words bytes) ≡ Some (page, why)
  pub none : ¬ (IsTree L (pages_of_bytes L.words bytes))

abbrev pub HoldsNoTree : List ℕ → (page why : ℕ) → Type 0
HoldsNoTree bytes page why = HoldsNoTreeIn (layout_of_file bytes) bytes page why

-- the bytes are no file of pages of this layout; of their number at most one more than a page file's most is told
pub record IsWrongLengthIn (L : Layout) (bytes : List ℕ) (told : ℕ) : Type 0 where
  pub none : ¬ (IsPageFile L.words bytes)
  pub len : told ≡ min (length bytes) 33554433

abbrev pub IsWrongLength : List ℕ → ℕ → Type 0
IsWrongLength bytes told = IsWrongLengthIn (layout_of_file bytes) bytes told

-- the map that a page file holds
abbrev pub file_map : List ℕ → Pairs
file_map bytes = map_of (layout_of_file bytes) (pages_of_file bytes)

-- the level of the root, of pages that are a tree
abbrev pub root_level : List (List ℕ) → ℕ
root_level pages = slice_index (page_at pages 0) 2

-- the level of a page file's root
abbrev pub file_height : List ℕ → ℕ
file_height bytes = root_level (pages_of_file bytes)

-- how many of its pages are not all zero
abbrev pub file_used : List ℕ → ℕ
file_used bytes = used_pages (pages_of_file bytes)
