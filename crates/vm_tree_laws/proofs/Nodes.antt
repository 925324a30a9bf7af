-- What stands at a page, where the tree's relation holds.
use Rattle.std.proofs.Common.{◌≡◌, ℕ, slice_index, inl, inr, Bool, true, false, refl, arith}
use Rattle.vm_tree_model.specs.Layout.{Layout, IsLayout}
use Rattle.vm_map.specs.Map.{Rises}
use Rattle.vm_tree_model.specs.Node.{IsNode}
use Rattle.vm_tree_model.specs.Page.{IsClean}
use Rattle.vm_tree_model.specs.Tree.{page_at, node_at, IsLeafAt}
use Rattle.vm_tree_model.proofs.Laws.{in_range}
use Rattle.vm_owner.specs.Numbers.{has}
use Rattle.vm_owner.specs.Kept.{Start, Kept}
use Rattle.vm_map.specs.declared.call.Said.{Said}
use Rattle.vm_tree_laws.specs.Keeps.{KeepsTree}
use Rattle.vm_tree_laws.proofs.Ties.{kind_of}

module _ (L : Layout) (laws : IsLayout L) (start : Start) (kept : Kept Said) (keeps : KeepsTree L start kept) where
  -- a page whose first word is not 0 is not owed
  pub other_not_owed : (p : ℕ) → (slice_index (page_at kept.pages p) 0 ≡ 0 → ⊥) → has p kept.owed ≡ false
  other_not_owed p other = go (has p kept.owed) refl
    where
      go : (b : Bool) → has p kept.owed ≡ b → b ≡ false
      go true some = absurd (other ((keeps.owed.free p some).zero 0))
      go false none = refl

  pub not_owed : (p : ℕ) → IsNode (node_at L kept.pages p) → has p kept.owed ≡ false
  not_owed p is = go (has p kept.owed) refl
    where
      go : (b : Bool) → has p kept.owed ≡ b → b ≡ false
      go true some = absurd (omega (arith, laws.free_tag _ (keeps.owed.free p some).zero, is))
      go false none = refl

  -- a page with a leaf's tag is a leaf
  pub leaf_by_tag : (p : ℕ) → (node_at L kept.pages p).tag ≡ 2 → IsLeafAt L kept.pages p
  leaf_by_tag p tag = let range = in_range L laws kept.pages keeps.tree p (omega (arith, tag), omega (arith, tag)) in
      (range.0, range.1, tag)

  -- a node's other words are as the format has them
  pub clean_at : (p : ℕ) → IsNode (node_at L kept.pages p) → IsClean L (page_at kept.pages p)
  clean_at p is = elim (kind_of L laws kept.pages keeps.tree p is) [
    | inl leaf ↦ leaf.clean
    | inr inner ↦ inner.clean
  ]

  pub rises_at : (p : ℕ) → IsNode (node_at L kept.pages p)
      → Rises (node_at L kept.pages p).low (node_at L kept.pages p).high (node_at L kept.pages p).pairs
  rises_at p is = elim (kind_of L laws kept.pages keeps.tree p is) [
    | inl leaf ↦ leaf.node.rises
    | inr inner ↦ inner.node.rises
  ]
