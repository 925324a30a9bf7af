-- A split below the root, of pages: a tree again, with the same map.
use Rattle.std.proofs.Common.{◌≡◌, ℕ, ◌≤◌, ◌≢◌, ◌⊎◌, inl, inr, List, ◌++◌, length, get_or, sym, ap, ◌∙◌, arith}
use Rattle.std.proofs.lemmas.Bool.{cases_eq, cases_lt}
use Rattle.vm_tree_model.specs.Layout.{Layout, IsLayout}
use Rattle.vm_map.specs.Map.{Pairs, lookup_at}
use Rattle.vm_tree_model.specs.Node.{Node, Covers, IsNode, IsTreeOf}
use Rattle.vm_tree_model.specs.Page.{IsFree, IsLeaf, IsInner, IsMeta, IsClean}
use Rattle.vm_tree_model.specs.Tree.{page_at, node_at, IsTree, IsLeafAt, map_of}
use Rattle.vm_map.proofs.MapLemmas.{map_ext, lookup-above, lookup-cut_below, lookup-cut_above}
use Rattle.vm_tree_model.proofs.SplitLaw.{IsSplitStep, split_tree, p_rises, p_is, q_ne_p}
use Rattle.vm_tree_model.proofs.Laws.{in_range, parted_leaves, lookup-map_of, Rises-map_of}

-- Pages change together: parent q, node p and its right sibling on page r. Below the root `mid` are the old nodes; at
-- a split of the root they have the new root on page q and the new page 0, which is no node
pub record IsSplitPages (L : Layout) (old new : List (List ℕ)) (mid : ℕ → Node) (root height q k p r sep : ℕ) (a b : Pairs) : Type 0 where
  pub same_count : length new ≡ length old
  pub meta : IsMeta L (length new) (page_at new 0)
  pub root_word : get_or (page_at new 0) 1 0 ≡ root
  pub height_word : get_or (page_at new 0) 2 0 ≡ height
  pub parent : IsClean L (page_at new q)
  pub left : IsClean L (page_at new p)
  pub right : IsClean L (page_at new r)
  pub tree : IsTreeOf L.key_end mid root height
  pub same : (x : ℕ) → 1 ≤ x → x ≢ q → mid x ≡ node_at L old x
  pub left_page : 1 ≤ p
  pub inner : (node_at L old q).tag ≢ 2
  pub step : IsSplitStep mid (node_at L new) q k p r sep a b
  pub others : (x : ℕ) → 1 ≤ x → x ≢ q → x ≢ p → x ≢ r → page_at new x ≡ page_at old x

module _ (L : Layout) (laws : IsLayout L) (old new : List (List ℕ)) (mid : ℕ → Node) (root height q k p r sep : ℕ)
    (a b : Pairs) (tree : IsTree L old) (split : IsSplitPages L old new mid root height q k p r sep a b) where
  q_is : IsNode (mid q)
  q_is = let tag : (mid q).tag ≡ 3 = split.step.named.0 in (omega arith, omega arith)

  after : IsTreeOf L.key_end (node_at L new) root height
  after = split_tree mid (node_at L new) root height q k p r sep a b split.tree split.step

  p_is_node : IsNode (mid p)
  p_is_node = p_is mid (node_at L new) root height q k p r sep a b split.tree split.step

  p_same : mid p ≡ node_at L old p
  p_same = split.same p split.left_page (λ e. q_ne_p mid (node_at L new) root height q k p r sep a b split.tree split.step (sym e))

  node_from : (n m : Node) → n ≡ m → IsNode m → IsNode n
  node_from n m e is = let tag : n.tag ≡ m.tag = ap (λ (x : Node). x.tag) e in (omega (arith, is, tag), omega (arith, is, tag))

  -- a clean page with a node's tag is a leaf or an inner node
  kind_of : (x : ℕ) → IsClean L (page_at new x) → IsNode (node_at L new x) → IsFree L (page_at new x)
      ⊎ IsLeaf L (page_at new x) ⊎ IsInner L (page_at new x)
  kind_of x clean is = elim (cases_eq (node_at L new x).tag 2) [
    | inl leaf ↦ inr (inl (record { clean = clean; node = after.leaf x leaf }))
    | inr other ↦ inr (inr (record { clean = clean; node = after.inner x (omega (arith, is, other)) }))
  ]

  pub split_pages_tree : IsTree L new
  split_pages_tree = record {
    meta = split.meta;
    kind = λ x ge lt. elim (cases_eq x q) [
      | inl e ↦ rw e (kind_of q split.parent (node_from _ _ split.step.parent q_is))
      | inr nq ↦ elim (cases_eq x p) [
        | inl e ↦ rw e (kind_of p split.left (node_from _ _ split.step.left p_is_node))
        | inr np ↦ elim (cases_eq x r) [
          | inl e ↦ rw e (kind_of r split.right (node_from _ _ split.step.right p_is_node))
          | inr nr ↦ rw (split.others x ge nq np nr) (tree.kind x ge (rw split.same_count at lt))
        ]
      ]
    ];
    tree = rw (split.root_word, split.height_word) after;
  }

  -- the leaf that covers a key after the split, with its pairs
  found_at : (key x : ℕ) → IsLeafAt L old x → Covers (node_at L old x) key → lookup_at (map_of L new) key ≡ lookup_at (map_of L old) key
  found_at key x at covers = elim (cases_eq x p) [
    | inl e ↦ rw (lookup-map_of L laws old tree x key at covers)
        (halves (rw e at at) (rw e at covers) ∙ ap (λ y. lookup_at (node_at L old y).pairs key) (sym e))
    | inr np ↦
        let nq : x ≢ q = λ e. split.inner (ap (λ y. (node_at L old y).tag) (sym e) ∙ at.2) in
        let tag : (mid x).tag ≡ 2 = ap (λ (n : Node). n.tag) (split.same x at.0 nq) ∙ at.2 in
        let nr : x ≢ r = λ e. omega (arith, tag, ap (λ y. (mid y).tag) e, split.step.free) in
        let same = split.others x at.0 nq np nr in
        lookup-map_of L laws new split_pages_tree x key (at.0, rw split.same_count at.1, rw (node_at, same) at.2)
        (rw (node_at, same) covers) ∙ ap (λ (w : List ℕ). lookup_at (L.node_of w).pairs key) same
        ∙ sym (lookup-map_of L laws old tree x key at covers)
  ]
    where
      halves : IsLeafAt L old p → Covers (node_at L old p) key → lookup_at (map_of L new) key ≡ lookup_at (node_at L old p).pairs key
      halves at covers =
          let rises = p_rises mid (node_at L new) root height q k p r sep a b split.tree split.step in
          let whole : lookup_at (node_at L old p).pairs key ≡ lookup_at (a ++ b) key =
          ap (λ (n : Node). lookup_at n.pairs key) (sym p_same) ∙ ap (λ (m : Pairs). lookup_at m key)
          split.step.halves in
          let left_is : node_at L new p ≡ record (node_at L old p) {
            high = sep;
            pairs = a;
          } = split.step.left ∙ ap (λ (n : Node). record n { high = sep; pairs = a }) p_same in
          let right_is : node_at L new r ≡ record (node_at L old p) {
            low = sep;
            pairs = b;
          } = split.step.right ∙ ap (λ (n : Node). record n { low = sep; pairs = b }) p_same in
          elim (cases_lt key sep) [
            | inl lt ↦
                let left_at : IsLeafAt L new p = (at.0, rw split.same_count at.1, ap (λ (n : Node). n.tag) left_is ∙ at.2) in
                let low : (node_at L new p).low ≡ (node_at L old p).low = ap (λ (n : Node). n.low) left_is in
                let high : (node_at L new p).high ≡ sep = ap (λ (n : Node). n.high) left_is in
                let pairs : lookup_at (node_at L new p).pairs key ≡ lookup_at a key = ap (λ (n : Node). lookup_at n.pairs key) left_is in
                lookup-map_of L laws new split_pages_tree p key left_at
                (omega (arith, low, covers.0), omega (arith, high)) ∙ pairs
                ∙ sym (lookup-cut_below a b _ sep _ key rises split.step.starts lt) ∙ sym whole
            | inr le ↦
                let tag : (node_at L new r).tag ≡ 2 = ap (λ (n : Node). n.tag) right_is ∙ at.2 in
                let range = in_range L laws new split_pages_tree r (omega (arith, tag), omega (arith, tag)) in
                let low : (node_at L new r).low ≡ sep = ap (λ (n : Node). n.low) right_is in
                let high : (node_at L new r).high ≡ (node_at L old p).high = ap (λ (n : Node). n.high) right_is in
                let pairs : lookup_at (node_at L new r).pairs key ≡ lookup_at b key = ap (λ (n : Node). lookup_at n.pairs key) right_is in
                lookup-map_of L laws new split_pages_tree r key (range.0, range.1, tag)
                (omega (arith, low), omega (arith, high, covers.1)) ∙ pairs
                ∙ sym (lookup-cut_above a b _ sep _ key rises split.step.starts le) ∙ sym whole
          ]

  pub split_pages_map : map_of L new ≡ map_of L old
  split_pages_map = map_ext _ _ 0 L.key_end (Rises-map_of L laws new split_pages_tree) (Rises-map_of L laws old tree)
      (λ key. elim (cases_lt key L.key_end) [
        | inl lt ↦ let (x, at, covers) = (parted_leaves L laws old tree).some key lt in found_at key x at covers
        | inr past ↦ lookup-above _ 0 L.key_end key (Rises-map_of L laws new split_pages_tree) past
            ∙ sym (lookup-above _ 0 L.key_end key (Rises-map_of L laws old tree) past)
      ])
