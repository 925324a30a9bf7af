-- The load of the pages: what their nodes weigh.
use Rattle.std.proofs.Common.{◌≡◌, ℕ, ◌+◌, ◌-◌, ◌*◌, ◌<◌, List, [], ◌∷◌, length, set, Bool, true, false, if◌then◌else◌, arith, sum_by}
use Rattle.std.proofs.lemmas.List.Sums.{sum_by-set, sum_by-cons}
use Rattle.std.proofs.Math.Nat.{mul-add}
use Rattle.vm_tree_model.specs.Layout.{Layout, size, weight}
use Rattle.vm_tree_model.specs.Tree.{page_at}
use Rattle.vm_tree_model.specs.Count.{is_node, node_count, excess}

abbrev pub load_of : Layout → List ℕ → ℕ
load_of L words = if is_node L words then weight L (L.node_of words) else 0

abbrev pub load : Layout → List (List ℕ) → ℕ
load L pages = sum_by (load_of L) pages

-- one page changes
pub load-set : (L : Layout) (pages : List (List ℕ)) (p : ℕ) (w : List ℕ) → p < length pages
    → load L (set pages p w) + load_of L (page_at pages p) ≡ load L pages + load_of L w
load-set L pages p w lt = sum_by-set (load_of L) pages p w [] lt

one_load : (a b x : ℕ) (is : Bool) → (if is then a + b * x else 0) ≡ a * (if is then 1 else 0) + b * (if is then x else 0)
one_load a b x true = omega arith
one_load a b x false = omega arith

-- so much for each node, and so much for each unit above the base
pub load_is : (L : Layout) (pages : List (List ℕ)) → load L pages ≡ L.node_weight * node_count L pages + L.excess_weight * excess L pages
load_is L [] = omega arith
load_is L (w ∷ ws) =
    rw (
      sum_by-cons (load_of L) w ws,
      sum_by-cons (λ (w : List ℕ). if is_node L w then 1 else 0) w ws,
      sum_by-cons (λ (w : List ℕ). if is_node L w then size L (L.node_of w) - L.base else 0) w ws,
    )
    (rw (
      mul-add L.node_weight (if is_node L w then 1 else 0) (node_count L ws),
      mul-add L.excess_weight
          (if is_node L w then size L (L.node_of w) - L.base else 0) (excess L ws),
    )
    (omega (arith, one_load L.node_weight L.excess_weight (size L (L.node_of w) - L.base) (is_node L w), load_is L ws)))
