-- What the checker answers.
use Rattle.std.specs.Prelude.{◌≡◌, map, slice_index, List, ℕ, Some}
use Rattle.vm_map.specs.Map.{Rises}
use Rattle.vm_page.specs.Pages.{page_at}
use Rattle.vm_tree_model.specs.Layout.{Layout}
use Rattle.vm_tree_model.specs.Tree.{IsTree, map_of}
use Rattle.vm_tree_model.specs.Reason.{reason, used_pages}
use Rattle.vm_check.specs.declared.rows.{Rows.Rows, TreeRows.TreeRows}
use Rattle.vm_check.specs.declared.fault.CheckFault.{CheckFault}
use Rattle.vm_check.specs.declared.fault.CheckFault.TheVariants.{BadPage, Memory}

-- the pages are a tree, and these are its rows: the map's pairs by rising key, the root's level, and the number of
-- pages that are not all zero
pub record AreRows (L : Layout) (pages : List (List ℕ)) (rows : Rows) : Type 0 where
  pub tree : IsTree L pages
  pub pairs : rows.pairs.items ≡ map_of L pages
  pub rise : Rises 0 L.key_end rows.pairs.items
  pub height : rows.height ≡ slice_index (page_at pages 0) 2
  pub used : rows.used ≡ used_pages pages

-- the same of pairs of another kind, each of which stands for a pair of numbers
pub record AreRowsOf {R : Type 0} (L : Layout) (pair : R → ℕ × ℕ) (pages : List (List ℕ)) (rows : TreeRows R) : Type 0 where
  pub tree : IsTree L pages
  pub pairs : map pair rows.pairs.items ≡ map_of L pages
  pub rise : Rises 0 L.key_end (map pair rows.pairs.items)
  pub height : rows.height ≡ slice_index (page_at pages 0) 2
  pub used : rows.used ≡ used_pages pages

-- the pages are no tree, and this is the first reason; or memory is wanting
abbrev pub IsRefusedImage : Layout → List (List ℕ) → CheckFault → Type 0
IsRefusedImage L pages (BadPage page why) = (reason L pages ≡ Some (page, why)) × ¬ (IsTree L pages)
IsRefusedImage L pages Memory = Unit {0}
