-- From a level to the one above it: where that begins, its entries, and the pages of a level with those of the levels above it.
use Rattle.std.proofs.Common.{ℕ, ◌+◌, List, [], ◌++◌, length, Bool, if◌then◌else◌}
use Rattle.vm_map.specs.Map.{Pairs}
use Rattle.vm_build.specs.Levels.{nodes_for, level_pages, entries_above}
use Rattle.vm_build.specs.Build.{levels_from}

module _ (z : ℕ) where
  -- the page of node 0 of the next level
  abbrev pub page_up : ℕ → Pairs → ℕ
  page_up page entries = page + nodes_for z (length entries)

  -- the entries of the next level
  abbrev pub entries_up : ℕ → Pairs → Pairs
  entries_up page entries = entries_above z page entries (nodes_for z (length entries))

  -- the nodes of a level
  abbrev pub own_pages : ℕ → Pairs → List (List ℕ)
  own_pages level entries = level_pages z level entries (nodes_for z (length entries))

  -- the nodes of the levels above it, at most so many and one more
  abbrev pub pages_up : ℕ → ℕ → ℕ → Pairs → List (List ℕ)
  pages_up levels level page entries = levels_from z levels (level + 1) (page_up page entries) (entries_up page entries)

  -- both together; there are levels above it unless it is the last
  abbrev pub pages_if : Bool → ℕ → ℕ → ℕ → Pairs → List (List ℕ)
  pages_if last levels level page entries = own_pages level entries ++ (if last then [] else pages_up levels level page entries)
