-- The walk finds no reason exactly where the pages are a tree, and its rows are then the map.
use Rattle.std.proofs.Common.{◌≡◌, ℕ, zero, suc, ◌↔◌, inl, inr, List, [], ◌∷◌, length, get_or, replicate, None, Ok}
use Rattle.std.proofs.Common.{Err, false, refl, arith, ap, ◌∙◌}
use Rattle.std.proofs.lemmas.List.{length-replicate}
use Rattle.vm_tree_model.specs.Layout.{Layout, IsLayout}
use Rattle.vm_map.specs.Map.{Pairs}
use Rattle.vm_tree_model.specs.Page.{IsMeta}
use Rattle.vm_tree_model.specs.Tree.{page_at, IsTree, map_of}
use Rattle.vm_tree_model.specs.Walk.{meta_fault}
use Rattle.vm_tree_model.specs.Reason.{Walked, fault_of, walked, reason, root_slot, unseen_pages}
use Rattle.vm_tree_model.proofs.Linked.{Seen, Linked}
use Rattle.vm_tree_model.proofs.Ordered.{Ordered}
use Rattle.vm_tree_model.proofs.Sound.{fault_or-Ok, meta_tells, finished, is_tree, rows_are}
use Rattle.vm_tree_model.proofs.Complete.{fault_or-None, completes, meta_passes}
use Rattle.vm_tree_model.proofs.Height.{height_fits}

unseen_at_first : (n p : ℕ) → get_or (replicate n false) p false ≡ false
unseen_at_first zero p = refl
unseen_at_first (suc n) zero = refl
unseen_at_first (suc n) (suc p) = unseen_at_first n p

module _ (L : Layout) (laws : IsLayout L) (pages : List (List ℕ)) where
  none_seen : (p : ℕ) → Seen (replicate (length pages) false) p → ⊥
  none_seen p seen = let unseen = unseen_at_first (length pages) p in cc

  linked_at_first : IsMeta L (length pages) (page_at pages 0) → Linked L pages (replicate (length pages) false)
      ((root_slot L (page_at pages 0), 0) ∷ []) (λ p. 0)
  linked_at_first meta = record {
    flags = length-replicate (length pages) false;
    on_page = λ e on. elim on [
      | inl here ↦ rw here (meta.root_low, meta.root_high)
      | inr none ↦ absurd none
    ];
    on_named = λ e on. elim on [
      | inl here ↦ rw here (inl (refl, refl))
      | inr none ↦ absurd none
    ];
    seen_page = λ p seen. absurd (none_seen p seen);
    seen_fills = λ p seen. absurd (none_seen p seen);
    seen_named = λ p seen. absurd (none_seen p seen);
    named = λ q s by. elim by [
      | inl root ↦ inl (inl (λ i. (root.1 i, root.0 i)))
      | inr child ↦ absurd (none_seen q child.0)
    ];
  }

  ordered_at_first : Ordered L pages (replicate (length pages) false) [] (root_slot L (page_at pages 0) ∷ []) 0
  ordered_at_first = record {
    tiles = (refl, omega arith, refl);
    rows_rise = tt;
    leaf_high = λ p seen. absurd (none_seen p seen);
    leaf_rows = λ p key seen. absurd (none_seen p seen);
  }

  pub tree_from_walk : (out : Pairs) → walked L pages ≡ Ok out → IsTree L pages × (out ≡ map_of L pages)
  tree_from_walk out is =
      let (none, rest) = fault_or-Ok 0 (meta_fault L (length pages) (page_at pages 0)) _ out is in
      let meta = meta_tells L (length pages) (page_at pages 0) none in
      let end = finished L laws pages (unseen_pages (replicate (length pages) false))
      ((root_slot L (page_at pages 0), 0) ∷ []) (replicate (length pages) false) [] out (λ p. 0) 0
      (linked_at_first meta) ordered_at_first rest in
      (is_tree L laws pages meta out end, rows_are L laws pages meta out end)

  pub walk_from_tree : IsTree L pages → walked L pages ≡ Ok (map_of L pages)
  walk_from_tree tree =
      let (out, is) = completes L laws pages tree (unseen_pages (replicate (length pages) false))
      ((root_slot L (page_at pages 0), 0) ∷ []) (replicate (length pages) false) [] (λ p. 0) 0
      (linked_at_first tree.meta) ordered_at_first (unseen_at_first (length pages) _, (λ x on. absurd on), tt) refl in
      let whole : walked L pages ≡ Ok out = fault_or-None 0 (meta_fault L (length pages) (page_at pages 0)) _
      (meta_passes L (length pages) (page_at pages 0) tree.meta (height_fits L laws pages tree)) ∙ is in
      whole ∙ ap (λ (m : Pairs). Ok m) (tree_from_walk out whole).1

  -- no reason is met exactly where the pages are a tree
  pub no_reason : (reason L pages ≡ None) ↔ (IsTree L) pages
  no_reason = (from (walked L pages) refl, λ tree. ap fault_of (walk_from_tree tree))
    where
      from : (w : Walked) → walked L pages ≡ w → reason L pages ≡ None → IsTree L pages
      from (Ok out) is none = (tree_from_walk out is).0
      from (Err fault) is none = absurd (let some = ap fault_of is in cc)
