-- Any two pages of a tree are tied.
use Rattle.std.proofs.Common.{◌≡◌, ◌⊎◌, inl, inr, ℕ, zero, suc, ◌<◌, List, length, slice_index, subst, arith}
use Rattle.vm_tree_model.specs.Layout.{Layout, IsLayout}
use Rattle.vm_tree_model.specs.Node.{IsNode}
use Rattle.vm_tree_model.specs.Page.{IsLeaf, IsInner}
use Rattle.vm_tree_model.specs.Tree.{page_at, node_at, IsTree}
use Rattle.vm_tree_model.proofs.Height.{height_fits}
use Rattle.vm_tree_model.proofs.Laws.{in_range}
use Rattle.vm_owner.specs.Kept.{Start, Kept}
use Rattle.vm_map.specs.declared.call.Said.{Said}
use Rattle.vm_tree_laws.specs.Keeps.{KeepsTree}
use Rattle.vm_tree_laws.specs.Tied.{IsNodeAs, IsSound, IsTied, Tied}

module _ (L : Layout) (laws : IsLayout L) (pages : List (List ℕ)) (tree : IsTree L pages) where
  pub kind_of : (p : ℕ) → IsNode (node_at L pages p) → IsLeaf L (page_at pages p) ⊎ IsInner L (page_at pages p)
  kind_of p is = let range = in_range L laws pages tree p is in elim (tree.kind p range.0 range.1) [
    | inl free ↦ absurd (omega (arith, laws.free_tag _ free.zero, is))
    | inr kind ↦ kind
  ]

  sound_at : (r : ℕ) → r < length pages → IsSound L (length pages) r (page_at pages r)
  sound_at r lt = record {
    meta = λ e. rw e tree.meta;
    height = λ e. rw e (height_fits L laws pages tree);
    kind = λ ge. tree.kind r ge lt;
    children = λ ge k c tag found. in_range L laws pages tree c (tree.tree.child_is r k c (tag, found));
  }

  root_at : (r p : ℕ) → r ≡ 0 → slice_index (page_at pages r) 1 ≡ p
      → IsNodeAs L (page_at pages p) (slice_index (page_at pages r) 2) 0 L.key_end
  root_at zero p is_zero root_is = subst (λ x. IsNodeAs L (page_at pages x) (slice_index (page_at pages 0) 2) 0 L.key_end) root_is
      (record {
        kind = kind_of _ tree.tree.root_is;
        level_is = tree.tree.root_level;
        low_is = tree.tree.root_low;
        high_is = tree.tree.root_high;
      })
  root_at (suc r) p is_zero root_is = absurd (omega arith)

  tied_at : (r p : ℕ) → r < length pages → IsTied L (length pages) r (page_at pages r) p (page_at pages p)
  tied_at r p lt = record {
    sound = sound_at r lt;
    root = root_at r p;
    child = λ ge tag k level found up. record {
      kind = kind_of p (tree.tree.child_is r k p (tag, found));
      level_is = omega (arith, tree.tree.child_level r k p (tag, found), up);
      low_is = tree.tree.child_low r k p (tag, found);
      high_is = tree.tree.child_high r k p (tag, found);
    };
  }

pub ties_hold : (L : Layout) (laws : IsLayout L) (start : Start) (kept : Kept Said) (r p : ℕ) → KeepsTree L start kept
    → r < length kept.pages → Tied L start r (page_at kept.pages r) p (page_at kept.pages p)
ties_hold L laws start kept r p keeps lt = subst (λ n. IsTied L n r (page_at kept.pages r) p (page_at kept.pages p))
    keeps.same_count (tied_at L laws kept.pages keeps.tree r p lt)
