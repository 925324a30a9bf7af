-- A leaf's pairs in the map: between two keys in the leaf's fences the map has just these.
use Rattle.std.proofs.Common.{◌≡◌, ℕ, ◌≤◌, List, sym, ◌∙◌, arith, inl, inr}
use Rattle.std.proofs.lemmas.Bool.{cases_lt}
use Rattle.vm_tree_model.specs.Layout.{Layout, IsLayout}
use Rattle.vm_map.specs.Map.{Rises}
use Rattle.vm_map.specs.History.{between}
use Rattle.vm_map.proofs.MapLemmas.{map_ext, Rises-from, Rises-to}
use Rattle.vm_map.proofs.WindowLaws.{Rises-between, lookup-between_in, lookup-between_out}
use Rattle.vm_tree_model.specs.Tree.{node_at, IsTree, IsLeafAt, map_of}
use Rattle.vm_tree_model.proofs.Laws.{high_le, lookup-map_of, Rises-map_of}

-- a leaf's keys rise, up to the end of all keys
pub leaf_rises : (L : Layout) (laws : IsLayout L) (pages : List (List ℕ)) (tree : IsTree L pages) (p : ℕ)
    → IsLeafAt L pages p → Rises 0 L.key_end (node_at L pages p).pairs
leaf_rises L laws pages tree p at =
    Rises-to _ 0 _ L.key_end (Rises-from _ _ 0 _ (tree.tree.leaf p at.2).rises (omega arith))
    (high_le L laws pages tree p at)

pub between-map_of : (L : Layout) (laws : IsLayout L) (pages : List (List ℕ)) (tree : IsTree L pages)
    (p from upto : ℕ) → IsLeafAt L pages p → (node_at L pages p).low ≤ from → upto ≤ (node_at L pages p).high
    → Rises 0 L.key_end (node_at L pages p).pairs
    → between (map_of L pages) from upto ≡ between (node_at L pages p).pairs from upto
between-map_of L laws pages tree p from upto at low high rises =
    map_ext _ _ 0 L.key_end (Rises-between _ 0 L.key_end from upto (Rises-map_of L laws pages tree))
    (Rises-between _ 0 L.key_end from upto rises) (λ q. elim (cases_lt q from) [
      | inl below ↦ lookup-between_out _ from upto q (λ ge lt. omega arith) ∙ sym (lookup-between_out _ from upto q (λ ge lt. omega arith))
      | inr ge ↦ elim (cases_lt q upto) [
        | inl lt ↦ lookup-between_in _ from upto q ge lt ∙ lookup-map_of L laws pages tree p q
            at (omega arith, omega arith) ∙ sym (lookup-between_in _ from upto q ge lt)
        | inr above ↦ lookup-between_out _ from upto q (λ ge lt. omega arith)
            ∙ sym (lookup-between_out _ from upto q (λ ge lt. omega arith))
      ]
    ])
