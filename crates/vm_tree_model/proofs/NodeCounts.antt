-- How many nodes pages can have: each has a page of its own, behind page 0 and before the pages that are free to the end.
use Rattle.std.proofs.Common.{◌≡◌, ℕ, zero, suc, ◌+◌, ◌<◌, ◌≤◌, ◌==◌, inl, inr, List, [], ◌∷◌, length, Bool, true}
use Rattle.std.proofs.Common.{false, if◌then◌else◌, arith}
use Rattle.std.proofs.lemmas.Bool.{cases_Bool, cases_lt, eqb-true, or_cases}
use Rattle.std.proofs.lemmas.List.Sums.{sum_by-cons}
use Rattle.vm_tree_model.specs.Layout.{Layout, IsLayout}
use Rattle.vm_tree_model.specs.Node.{IsNode}
use Rattle.vm_tree_model.specs.Page.{IsFree}
use Rattle.vm_tree_model.specs.Tree.{page_at, node_at, IsTree}
use Rattle.vm_tree_model.specs.Count.{is_node, node_count}
use Rattle.vm_tree_model.proofs.Laws.{in_range}

module _ (L : Layout) where
  node_tag : (w : List ℕ) → is_node L w ≡ true → IsNode (L.node_of w)
  node_tag w is = elim (or_cases ((L.node_of w).tag == 2) ((L.node_of w).tag == 3) is) [
    | inl two ↦ let tag : (L.node_of w).tag ≡ 2 = eqb-true (L.node_of w).tag 2 two in (omega (arith, tag), omega (arith, tag))
    | inr three ↦ let tag : (L.node_of w).tag ≡ 3 = eqb-true (L.node_of w).tag 3 three in (omega (arith, tag), omega (arith, tag))
  ]

  no_node : (w : List ℕ) → (IsNode (L.node_of w) → ⊥) → is_node L w ≡ false
  no_node w none = elim (cases_Bool (is_node L w)) [
    | inl is ↦ absurd (none (node_tag w is))
    | inr not ↦ not
  ]

  one : (is : Bool) → (if is then 1 else 0) ≤ 1
  one true = omega arith
  one false = omega arith

  -- no page from the next one on is a node
  up_to : (pages : List (List ℕ)) (next : ℕ)
      → ((p : ℕ) → next ≤ p → p < length pages → is_node L (page_at pages p) ≡ false) → node_count L pages ≤ next
  up_to [] next none = omega arith
  up_to (w ∷ ws) zero none =
      let rest : node_count L ws ≤ 0 = up_to ws zero (λ p ge lt. none (suc p) (omega arith) (omega (arith, lt))) in
      rw (sum_by-cons (λ (w : List ℕ). if is_node L w then 1 else 0) w ws, none 0 (omega arith) (omega arith)) (omega (arith, rest))
  up_to (w ∷ ws) (suc next) none =
      let rest : node_count L ws ≤ next = up_to ws next (λ p ge lt. none (suc p) (omega (arith, ge)) (omega (arith, lt))) in
      rw (sum_by-cons (λ (w : List ℕ). if is_node L w then 1 else 0) w ws) (omega (arith, rest, one (is_node L w)))

  -- nor is page 0
  behind_first : (pages : List (List ℕ)) (next : ℕ) → 1 ≤ next → is_node L (page_at pages 0) ≡ false
      → ((p : ℕ) → next ≤ p → p < length pages → is_node L (page_at pages p) ≡ false) → node_count L pages + 1 ≤ next
  behind_first [] next some meta none = omega (arith, some)
  behind_first (w ∷ ws) zero some meta none = absurd (omega (arith, some))
  behind_first (w ∷ ws) (suc next) some meta none =
      let rest : node_count L ws ≤ next = up_to ws next (λ p ge lt. none (suc p) (omega (arith, ge)) (omega (arith, lt))) in
      rw (sum_by-cons (λ (w : List ℕ). if is_node L w then 1 else 0) w ws, meta) (omega (arith, rest))

module _ (L : Layout) (laws : IsLayout L) (pages : List (List ℕ)) (tree : IsTree L pages) where
  -- where the pages from the next one on are free, the nodes are fewer than the next page's number: the root is one,
  -- so some page is in use behind page 0
  pub nodes_below : (next : ℕ) → ((p : ℕ) → next ≤ p → p < length pages → IsFree L (page_at pages p)) → node_count L pages + 1 ≤ next
  nodes_below next free = behind_first L pages next some (no_node L (page_at pages 0) (laws.meta_tag _ tree.meta.magic)) none
    where
      untagged : (p : ℕ) → next ≤ p → p < length pages → IsNode (node_at L pages p) → ⊥
      untagged p ge lt is = omega (arith, is.0, laws.free_tag _ (free p ge lt).zero)

      none : (p : ℕ) → next ≤ p → p < length pages → is_node L (page_at pages p) ≡ false
      none p ge lt = no_node L (page_at pages p) (untagged p ge lt)

      some : 1 ≤ next
      some = elim (cases_lt 0 next) [
        | inl lt ↦ omega (arith, lt)
        | inr le ↦ absurd (untagged _ (omega (arith, le)) (in_range L laws pages tree _ tree.tree.root_is).1 tree.tree.root_is)
      ]

  -- so they are fewer than the pages
  pub nodes_fewer : node_count L pages + 1 ≤ length pages
  nodes_fewer = nodes_below (length pages) (λ p ge lt. absurd (omega (arith, ge, lt)))
