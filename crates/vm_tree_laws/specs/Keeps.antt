-- What the tree keeps true of the logical pages, the next page, the pages owed, the page numbers that are free, held
-- or still to be given, and the history.
use Rattle.std.specs.Prelude.{◌≡◌, ℕ, ◌+◌, ◌-◌, ◌*◌, ◌<◌, ◌≤◌, ◌⊎◌, false, true, length}
use Rattle.vm_tree_model.specs.Layout.{Layout}
use Rattle.vm_map.specs.History.{after_all}
use Rattle.vm_map.specs.declared.call.Said.{Said}
use Rattle.vm_tree_model.specs.Page.{IsFree}
use Rattle.vm_tree_model.specs.Tree.{page_at, IsTree, IsParted, map_of}
use Rattle.vm_tree_model.specs.Count.{node_count, excess}
use Rattle.vm_page.specs.Pages.{all_zero}
use Rattle.vm_owner.specs.Numbers.{has, AreApart}
use Rattle.vm_owner.specs.Kept.{Start, Kept, is_spare}
use Rattle.vm_tree_laws.specs.History.{saids, IsLegal, gones, news}

-- what a node of full size weighs
abbrev pub full_weight : Layout → ℕ
full_weight L = L.node_weight + L.excess_weight * (L.room - L.base)

-- what a node that two leaves became weighs above one at the base
abbrev pub merge_weight : Layout → ℕ
merge_weight L = L.excess_weight * (L.merge_room - L.base)

-- The pages owed are claimed pages with zero words, none listed twice
pub record AreOwed (L : Layout) (start : Start) (kept : Kept Said) : Type 0 where
  pub apart : AreApart kept.owed
  pub range : (p : ℕ) → has p kept.owed ≡ true → (start.next ≤ p) × (p < kept.next)
  pub free : (p : ℕ) → has p kept.owed ≡ true → IsFree L (page_at kept.pages p)

-- The pages are a tree, its map is the start's map after the history, and what was claimed, put and removed since the
-- start is accounted for
pub record KeepsTree (L : Layout) (start : Start) (kept : Kept Said) : Type 0 where
  pub same_count : length kept.pages ≡ length start.pages
  pub tree : IsTree L kept.pages
  pub parted : IsParted L kept.pages
  pub contents : map_of L kept.pages ≡ after_all (map_of L start.pages) (saids kept.history)
  pub legal : IsLegal (map_of L start.pages) kept.history
  pub risen : start.next ≤ kept.next
  pub bounded : kept.next ≤ length kept.pages
  -- a page that was claimed since the start is not free, or owed, or its number is free, held or still to be given
  pub claimed : (p : ℕ) → start.next ≤ p → p < kept.next → (all_zero (page_at kept.pages p) ≡ false)
      ⊎ (has p kept.owed ≡ true) ⊎ (is_spare kept p ≡ true)
  pub owed : AreOwed L start kept
  -- so much for each node and for each unit of its size above the base is at most what a full node weighs for each
  -- node of the start, and what a pair adds for each put that was new
  pub room : L.node_weight * node_count L kept.pages + L.excess_weight * excess L kept.pages ≤ full_weight
      L * node_count L start.pages + L.excess_weight * L.growth * news kept.history
  -- so much for each page claimed since the start that is not owed, and for each unit of a node's size above the
  -- base, is at most what a full node exceeds the base for each node of the start,
  -- what a pair adds for each put that was new, and what a node that two became exceeds the base for each del that gave a value
  pub paid : L.node_weight * kept.next + L.excess_weight * excess L kept.pages
      ≤ L.excess_weight * (L.room - L.base) * node_count L start.pages + L.excess_weight * L.growth * news
      kept.history + merge_weight L * gones kept.history + L.node_weight * (start.next + length kept.owed)
