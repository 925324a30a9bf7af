-- A tree is lower than its pages are many, since each level has a node.
use Rattle.std.proofs.Common.{◌≡◌, ℕ, zero, suc, ◌+◌, ◌≤◌, inl, inr, List, [], ◌∷◌, length, get_or, ◌&&◌, leb, ltb}
use Rattle.std.proofs.Common.{if◌then◌else◌, refl, arith}
use Rattle.std.proofs.lemmas.Bool.{cases_Bool, and_parts, leb-true}
use Rattle.std.proofs.lemmas.Bool.Decides.{nat_tests}
use Rattle.vm_tree_model.specs.Layout.{Layout, IsLayout}
use Rattle.vm_tree_model.specs.Node.{IsNode}
use Rattle.vm_tree_model.specs.Tree.{page_at, node_at, IsTree}
use Rattle.vm_tree_model.proofs.Levels.{parted}
use Rattle.vm_tree_model.proofs.Laws.{most_level, levels_bounded}

-- 1 for a node below the level
abbrev counts_below : Layout → ℕ → List ℕ → ℕ
counts_below L level w = if leb 2 ((L.node_of w).tag) && leb ((L.node_of w).tag) 3 && ltb ((L.node_of w).level) level then 1 else 0

-- how many nodes stand below the level
abbrev nodes_below : Layout → ℕ → List (List ℕ) → ℕ
nodes_below L level [] = 0
nodes_below L level (w ∷ ws) = counts_below L level w + nodes_below L level ws

counts-more : (L : Layout) (w : List ℕ) (level : ℕ) → counts_below L level w ≤ counts_below L (suc level) w
counts-more L w level = grind (arith, nat_tests)

counts-here : (L : Layout) (w : List ℕ) (level : ℕ) → 2 ≤ (L.node_of w).tag → (L.node_of w).tag ≤ 3
    → (L.node_of w).level ≡ level → counts_below L level w + 1 ≤ counts_below L (suc level) w
counts-here L w level tag tag' at = grind (arith, nat_tests, tag, tag', at)

counts-one : (L : Layout) (w : List ℕ) (level : ℕ) → counts_below L level w ≤ 1
counts-one L w level = grind (arith, nat_tests)

nodes-more : (L : Layout) (ws : List (List ℕ)) (level : ℕ) → nodes_below L level ws ≤ nodes_below L (suc level) ws
nodes-more L [] level = omega arith
nodes-more L (w ∷ ws) level = omega (arith, counts-more L w level, nodes-more L ws level)

-- a node at the level is one more below the next
nodes-step : (L : Layout) (laws : IsLayout L) (ws : List (List ℕ)) (p level : ℕ) → IsNode (node_at L ws p)
    → (node_at L ws p).level ≡ level → nodes_below L level ws + 1 ≤ nodes_below L (suc level) ws
nodes-step L laws [] p level is at = let none : IsNode (L.node_of []) = is in absurd (omega (arith, none, laws.free_tag [] (λ i. refl)))
nodes-step L laws (w ∷ ws) zero level is at = omega (arith, counts-here L w level is.0 is.1 at, nodes-more L ws level)
nodes-step L laws (w ∷ ws) (suc p) level is at = omega (arith, counts-more L w level, nodes-step L laws ws p level is at)

nodes-le : (L : Layout) (ws : List (List ℕ)) (level : ℕ) → nodes_below L level ws ≤ length ws
nodes-le L [] level = omega arith
nodes-le L (w ∷ ws) level = omega (arith, counts-one L w level, nodes-le L ws level)

no_node : (L : Layout) (level : ℕ) (w : List ℕ) → (IsNode (L.node_of w) → ⊥) → counts_below L level w ≡ 0
no_node L level w other = elim (cases_Bool (leb 2 (L.node_of w).tag && leb (L.node_of w).tag 3)) [
  | inl passes ↦ let (two, three) = and_parts (leb 2 (L.node_of w).tag) (leb (L.node_of w).tag 3) passes in
      absurd (other (leb-true 2 (L.node_of w).tag two, leb-true (L.node_of w).tag 3 three))
  | inr none ↦ grind (arith, nat_tests, none)
]

-- page 0 is no node
nodes-meta : (L : Layout) (laws : IsLayout L) (ws : List (List ℕ)) (level : ℕ) → 1 ≤ length ws
    → get_or (page_at ws 0) 0 0 ≡ L.magic → nodes_below L level ws + 1 ≤ length ws
nodes-meta L laws [] level some magic = absurd (omega arith)
nodes-meta L laws (w ∷ ws) level some magic =
    let none : counts_below L level w ≡ 0 = no_node L level w (laws.meta_tag w magic) in
    omega (arith, none, nodes-le L ws level)

module _ (L : Layout) (laws : IsLayout L) (pages : List (List ℕ)) (tree : IsTree L pages) where
  -- so many levels have so many nodes
  each_level : (level : ℕ) → level ≤ get_or (page_at pages 0) 2 0 + 1 → level ≤ nodes_below L level pages
  each_level zero le = omega arith
  each_level (suc level) le =
      let parts = parted (node_at L pages) _ _ tree.tree (most_level L pages) (levels_bounded L pages) level (omega arith) in
      let (p, is, at, covers) = parts.some 0 (omega arith) in
      omega (arith, nodes-step L laws pages p level is at, each_level level (omega arith))

  -- the height is at most the number of pages less 2
  pub height_fits : get_or (page_at pages 0) 2 0 + 2 ≤ length pages
  height_fits = omega (
    arith,
    each_level (get_or (page_at pages 0) 2 0 + 1) (omega arith),
    nodes-meta L laws pages
        (get_or (page_at pages 0) 2 0 + 1) (omega (arith, tree.meta.root_high)) tree.meta.magic,
  )
