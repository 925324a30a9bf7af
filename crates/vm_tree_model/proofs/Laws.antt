-- The laws of a tree of pages.
use Rattle.std.proofs.Common.{◌≡◌, ℕ, zero, suc, ◌+◌, ◌<◌, ◌≤◌, ◌≢◌, inl, inr, List, [], ◌∷◌, length, None, refl, ap, ◌∙◌, arith}
use Rattle.std.proofs.lemmas.Bool.{cases_lt}
use Rattle.std.proofs.lemmas.List.{get_or_past}
use Rattle.vm_tree_model.specs.Layout.{Layout, IsLayout}
use Rattle.vm_map.specs.Map.{Pairs, lookup_at, Rises}
use Rattle.vm_tree_model.specs.Node.{Covers, IsNode}
use Rattle.vm_tree_model.specs.Page.{pairs_of, IsLeaf}
use Rattle.vm_tree_model.specs.Tree.{page_at, node_at, IsTree, IsLeafAt, IsParted, leaf_pairs, map_of}
use Rattle.vm_map.proofs.MapLemmas.{lookup-gather, lookup-below, lookup-above, Rises-gather, KeysIn, KeysIn-from_Rises}
use Rattle.vm_tree_model.proofs.Levels.{parted}
use Rattle.vm_tree_model.proofs.MapOf.{tag_at, one_found, keys_in}

-- levels have a bound, since the pages are finitely many
pub most_level : Layout → List (List ℕ) → ℕ
most_level L [] = (L.node_of []).level
most_level L (w ∷ ws) = (L.node_of w).level + most_level L ws

-- a level is at most itself
same_level : (a : ℕ) → a ≤ a
same_level a = omega arith

pub levels_bounded : (L : Layout) (pages : List (List ℕ)) (p : ℕ) → (node_at L pages p).level ≤ most_level L pages
unfolding most_level
levels_bounded L [] p = same_level (L.node_of []).level
levels_bounded L (w ∷ ws) zero = omega arith
levels_bounded L (w ∷ ws) (suc p) = omega (arith, levels_bounded L ws p)

module _ (L : Layout) (laws : IsLayout L) (pages : List (List ℕ)) (tree : IsTree L pages) where
  -- a node by its tag has its page in range
  pub in_range : (p : ℕ) → IsNode (node_at L pages p) → (1 ≤ p) × (p < length pages)
  in_range zero is = absurd (laws.meta_tag _ tree.meta.magic is)
  in_range (suc p) is = elim (cases_lt (suc p) (length pages)) [
    | inl lt ↦ (omega arith, lt)
    | inr past ↦
        let empty : page_at pages (suc p) ≡ [] = get_or_past pages (suc p) [] past in
        let tag : (node_at L pages (suc p)).tag ≡ 0 = ap (λ (w : List ℕ). (L.node_of w).tag) empty ∙ laws.free_tag [] (λ i. refl) in
        absurd (omega (arith, is, tag))
  ]

  pub is_leaf : (p : ℕ) → IsLeafAt L pages p → IsLeaf L (page_at pages p)
  is_leaf p at = elim (tree.kind p at.0 at.1) [
    | inl free ↦ absurd (omega (arith, laws.free_tag _ free.zero, at.2))
    | inr kind ↦ elim kind [
      | inl leaf ↦ leaf
      | inr inner ↦ absurd (omega (arith, inner.node.tag, at.2))
    ]
  ]

  -- the leaves are the nodes of level 0
  pub leaf_from : (p : ℕ) → IsNode (node_at L pages p) → (node_at L pages p).level ≡ 0 → IsLeafAt L pages p
  leaf_from p is level =
      let range = in_range p is in
      let not_inner : (node_at L pages p).tag ≢ 3 = λ tag. omega (arith, (tree.tree.inner p tag).level, level) in
      (range.0, range.1, omega (arith, is, not_inner))

  pub leaf_to : (p : ℕ) → IsLeafAt L pages p → IsNode (node_at L pages p) × ((node_at L pages p).level ≡ 0)
  leaf_to p at = ((omega (arith, at.2), omega (arith, at.2)), (is_leaf p at).node.level)

  -- each key lies in the fences of exactly one leaf
  pub parted_leaves : IsParted L pages
  parted_leaves =
      let parts = parted (node_at L pages) _ _ tree.tree (most_level L pages) (levels_bounded L pages) 0 (omega arith) in
      record {
        some = λ key lt. let (p, is, level, covers) = parts.some key lt in (p, leaf_from p is level, covers);
        one = λ key p q lp cp lq cq. let p' = leaf_to p lp in let q' = leaf_to q lq in parts.one key p q p'.0 p'.1 cp q'.0 q'.1 cq;
      }

  -- the map has at a key what the covering leaf has
  pub lookup-map_of : (p key : ℕ) → IsLeafAt L pages p → Covers (node_at L pages p) key
      → lookup_at (map_of L pages) key ≡ lookup_at (node_at L pages p).pairs key
  lookup-map_of p key at covers = found pages p at.0 at.1 at.2 others
    where
      others : (q : ℕ) → 1 ≤ q → q < length pages → q ≢ p → tag_at L pages q ≡ 2 → lookup_at (pairs_of L (page_at pages q)) key ≡ None
      others q ge lt ne tag =
          let at_q : IsLeafAt L pages q = (ge, lt, tag) in
          let rises = (is_leaf q at_q).node.rises in
          elim (cases_lt key (node_at L pages q).low) [
            | inl below ↦ lookup-below _ _ _ key rises below
            | inr from ↦ elim (cases_lt key (node_at L pages q).high) [
              | inl within ↦ absurd (ne (parted_leaves.one key q p at_q (from, within) at covers))
              | inr above ↦ lookup-above _ _ _ key rises above
            ]
          ]

      found : (ps : List (List ℕ)) (p : ℕ) → 1 ≤ p → p < length ps → tag_at L ps p ≡ 2
          → ((q : ℕ) → 1 ≤ q → q < length ps → q ≢ p → tag_at L ps q ≡ 2 → lookup_at (pairs_of L (page_at ps q))
          key ≡ None) → lookup_at (map_of L ps) key ≡ lookup_at (pairs_of L (page_at ps p)) key
      found [] p ge lt tag none = absurd (omega arith)
      found (w ∷ ws) zero ge lt tag none = absurd (omega arith)
      found (w ∷ ws) (suc p) ge lt tag none = lookup-gather (leaf_pairs L ws) key ∙ one_found L ws key p (omega arith)
          tag (λ q qlt ne. none (suc q) (omega arith) (omega arith) (omega arith))

  -- a fence is at most the end of all keys
  pub high_le : (p : ℕ) → IsLeafAt L pages p → (node_at L pages p).high ≤ L.key_end
  high_le p at = laws.clean_high _ (is_leaf p at).clean

  -- the map's keys rise
  pub Rises-map_of : Rises 0 L.key_end (map_of L pages)
  Rises-map_of = rises pages (λ q ge lt tag. let at : IsLeafAt L pages q = (ge, lt, tag) in
      KeysIn-wider _ _ _ _ _ (omega arith) (high_le q at) (KeysIn-from_Rises _ _ _ (is_leaf q at).node.rises))
    where
      KeysIn-wider : (l : Pairs) (low high low' high' : ℕ) → low' ≤ low → high ≤ high' → KeysIn low high l → KeysIn low' high' l
      KeysIn-wider [] low high low' high' le le' k = tt
      KeysIn-wider (e ∷ es) low high low' high' le le' k =
          (omega (arith, k.0), omega (arith, k.1), KeysIn-wider es low high low' high' le le' k.2)

      rises : (ps : List (List ℕ))
          → ((q : ℕ) → 1 ≤ q → q < length ps → tag_at L ps q ≡ 2 → KeysIn 0 L.key_end (pairs_of L (page_at ps q)))
          → Rises 0 L.key_end (map_of L ps)
      rises [] each = tt
      rises (w ∷ ws) each = Rises-gather (leaf_pairs L ws) 0 L.key_end
          (keys_in L ws 0 L.key_end (λ i lt. each (suc i) (omega arith) (omega arith)))
