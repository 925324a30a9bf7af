-- Page files that devices hold: which pages are served where they lie, and what holds of a file's pages: of those that devices tell, and where
-- they tell none, of some pages.
use Rattle.std.specs.Prelude.{◌*◌, ◌≡◌, ◌≤◌, length, List, Option, option_map, Some, true, ℕ}
use Rattle.vm_map.specs.Map.{Pairs}
use Rattle.vm_tree_model.specs.{Fixed.fixed, Reason.reason, Tree.IsTree, Tree.map_of}
use Rattle.vm_device.specs.Devices.{file_of, size_of, StoredFile}
use Rattle.vm_endings.specs.Outside.{Outside, Remains}

-- as many bytes as 2 to 256 pages of 64 words have
abbrev pub IsServedLength : ℕ → Type 0
IsServedLength size = (pages : ℕ) × (2 ≤ pages) × (pages ≤ 256) × (size ≡ 512 * pages)

-- the pages that are whole in the file with this name, and None where there is no such file
abbrev pub pages_held : List StoredFile → List ℕ → Option (List (List ℕ))
pages_held files name = option_map (λ file. file.pages) (file_of files name)

-- these are the pages of the file with this name, which has no other bytes, where devices tell; and they are 2 to 256
pub record AreFilePages (outside : Outside) (name : List ℕ) (pages : List (List ℕ)) : Type 0 where
  pub some : 2 ≤ length pages
  pub most : length pages ≤ 256
  pub size : outside.tells ≡ true → size_of outside.devices.files name ≡ Some (512 * length pages)
  pub held : outside.tells ≡ true → pages_held outside.devices.files name ≡ Some pages

-- the file with this name has pages of 64 words, 2 to 256, of which P holds; where devices tell nothing, there are pages of which P holds
abbrev pub HasFilePages : Outside → List ℕ → (List (List ℕ) → Type 0) → Type 0
HasFilePages outside name P = (pages : List (List ℕ)) × AreFilePages outside name pages × P pages

-- the pages are a tree of 64 words a page
abbrev pub IsServedTree : List (List ℕ) → Type 0
IsServedTree pages = IsTree (fixed 64) pages

-- they are none, and this is the first reason
pub record AreNoTree (pages : List (List ℕ)) (page why : ℕ) : Type 0 where
  pub reason : reason (fixed 64) pages ≡ Some (page, why)
  pub none : ¬ (IsServedTree pages)

-- Such a file was asked for its length, and the answer was this one, which is not that of 2 to 256 pages; where devices tell it is the file's
pub record IsNoServedLength (outside : Outside) (left : Remains) (name : List ℕ) (told : ℕ) : Type 0 where
  pub answered : left.devices.answered ≡ Some told
  pub none : ¬ (IsServedLength told)
  pub size : outside.tells ≡ true → size_of outside.devices.files name ≡ Some told

-- the file with this name has pages at the end that are a tree with this map
pub record HoldsMap (left : Remains) (name : List ℕ) (m : Pairs) : Type 0 where
  pub pages : List (List ℕ)
  pub held : pages_held left.devices.files name ≡ Some pages
  pub tree : IsServedTree pages
  pub map : map_of (fixed 64) pages ≡ m
