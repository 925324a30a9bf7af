-- What a call on the tree loads of a page where it stands, and how many words of pages in all.
use Rattle.std.specs.Prelude.{[], ◌++◌, ◌∷◌, ◌≡◌, ◌≤◌, ◌⊎◌, length, List, map, slice_index_or, ℕ}
use Rattle.vm_rule.specs.Prelude.{loads_at, StartsWith}
use Rattle.vm_step.specs.Prelude.{View}
use Rattle.vm_kind.specs.from_vm_guard.{Guards.Loads, PageWords.LoadsWords}
use Rattle.vm_tree_rule.specs.Standing.{IsOpened}

-- the height of the tree, among the words that a descent loads: the second one, behind the root's page; 0 where it did not come so far
abbrev pub height_in : List ℕ → ℕ
height_in loaded = slice_index_or loaded 1 0

module _ {X : Type 0} where
  -- words of page p were loaded through its open read, this many at most, and nothing else was done; of them this is so
  pub record ReadsInPlace (p word frame most : ℕ) (v w : View X) (claim : List (ℕ × ℕ) → Type 0) : Type 0 where
    pub loaded : List (ℕ × ℕ)
    pub loads : Loads p word frame loaded v w
    pub words : LoadsWords (map (λ l. l.1) loaded) v w
    pub few : length loaded ≤ most
    pub tells : claim loaded

  -- page 0 tells this height: it was looked at in this call, and the first words of pages that the call loaded are
  -- its words 1 and 2, through that
  -- read, so from the frame that its translation word named; word 2 is the height
  pub record HasHeight (height : ℕ) (v w : View X) : Type 0 where
    pub word : ℕ
    pub frame : ℕ
    pub root : ℕ
    pub read : View X
    pub opened : IsOpened v 0 word frame read
    pub loads : (before : List (ℕ × ℕ)) × (loads_at read 0 ≡ before ++ (1, root) ∷ (2, height) ∷ [])
    pub first : LoadsWords (root ∷ height ∷ []) v read
    pub since : StartsWith w.log read.log

  -- the call loaded at most so many words of pages
  pub record LoadsAtMost (most : ℕ) (v w : View X) : Type 0 where
    pub loaded : List ℕ
    pub words : LoadsWords loaded v w
    pub few : length loaded ≤ most

  -- the call loaded at most so many words of pages, by the height that page 0 tells; or none
  pub record LoadsWithin (most : ℕ → ℕ) (v w : View X) : Type 0 where
    pub loaded : List ℕ
    pub words : LoadsWords loaded v w
    pub few : length loaded ≤ most (height_in loaded)
    pub tells : (loaded ≡ []) ⊎ HasHeight (height_in loaded) v w

  -- page 0 tells this height, and the call loaded at most so many words
  pub record LoadsHeight (most height : ℕ) (v w : View X) : Type 0 where
    pub loaded : List ℕ
    pub words : LoadsWords loaded v w
    pub two : 2 ≤ length loaded
    pub is : height_in loaded ≡ height
    pub few : length loaded ≤ most
    pub tells : HasHeight height v w
