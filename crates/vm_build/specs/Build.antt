-- The image that is built of pairs, of pages of z words: page 0, leaves and further levels one after another, the
-- root last, and free pages.
use Rattle.std.specs.Prelude.{ℕ, zero, suc, ◌≡◌, ◌+◌, ◌-◌, ◌<◌, ◌≤◌, List, [], ◌∷◌, ◌++◌, length, replicate}
use Rattle.std.specs.Prelude.{slice_index, slice_index_or, nat_le, if◌then◌else◌}
use Rattle.vm_map.specs.Map.{Pairs, gather}
use Rattle.vm_tree_model.specs.Fixed.{fixed, fixed_magic}
use Rattle.vm_tree_model.specs.Tree.{IsTree, map_of}
use Rattle.vm_build.specs.Levels.{nodes_for, level_pages, entries_above}
use Rattle.vm_build.specs.declared.building.BuildFault.{BuildFault}
use Rattle.vm_build.specs.declared.building.BuildFault.TheVariants.{TooFew, Memory}

-- the nodes of a level of so many, and those of the levels above it, at most so many: while a level has more than one node, there is a next
abbrev pub nodes_from : ℕ → ℕ → ℕ → ℕ
nodes_from z zero nodes = nodes
nodes_from z (suc levels) nodes = nodes + (if nat_le nodes 1 then 0 else nodes_from z levels (nodes_for z nodes))

-- the pages for so many pairs: page 0 and the nodes of all levels. More levels than there are pairs are never needed
abbrev pub needed : ℕ → ℕ → ℕ
needed z pairs = 1 + nodes_from z pairs (nodes_for z pairs)

-- the pages of a level whose node 0 is at this page, and of those above it, at most so many
abbrev pub levels_from : ℕ → ℕ → ℕ → ℕ → Pairs → List (List ℕ)
levels_from z zero level page entries = level_pages z level entries (nodes_for z (length entries))
levels_from z (suc levels) level page entries =
    level_pages z level entries (nodes_for z (length entries))
    ++ (if nat_le (nodes_for z (length entries)) 1 then [] else levels_from z levels (level + 1)
    (page + nodes_for z (length entries)) (entries_above z page entries (nodes_for z (length entries))))

-- the nodes of all levels, from page 1 on
abbrev pub tree_nodes : ℕ → Pairs → List (List ℕ)
tree_nodes z pairs = levels_from z (length pairs) 0 1 pairs

-- page 0: the root is the last of the nodes
abbrev pub meta_page : ℕ → List (List ℕ) → List ℕ
meta_page z nodes = fixed_magic z ∷ length nodes ∷ slice_index (slice_index_or nodes (length nodes - 1) []) 5 ∷ replicate (z - 3) 0

-- the image of so many pages, of pairs by rising key
abbrev pub built : ℕ → ℕ → Pairs → List (List ℕ)
built z pages pairs = meta_page z (tree_nodes z pairs) ∷ tree_nodes z pairs ++ replicate (pages - needed z (length pairs)) (replicate z 0)

-- The image of these pairs, in whatever order they are given: it is laid out so, it is a tree, and its map is theirs
pub record IsBuilt (z : ℕ) (pages : ℕ) (pairs : Pairs) (image : List (List ℕ)) : Type 0 where
  pub fits : needed z (length pairs) ≤ pages
  pub laid_out : image ≡ built z pages (gather pairs)
  pub tree : IsTree (fixed z) image
  pub map : map_of (fixed z) image ≡ gather pairs

-- why no image is built: more pages are needed than there are; or they are enough, and memory is wanting
abbrev pub IsBuildRefused : ℕ → ℕ → Pairs → BuildFault → Type 0
IsBuildRefused z pages pairs (TooFew told) = (told ≡ needed z (length pairs)) × (pages < needed z (length pairs))
IsBuildRefused z pages pairs Memory = needed z (length pairs) ≤ pages
