-- Two neighbouring leaves became one, as pages: a tree again, with the same map.
use Rattle.std.proofs.Common.{◌≡◌, ◌≢◌, ℕ, ◌<◌, ◌≤◌, inl, inr, List, length, get_or, sym, ap, ◌∙◌, subst, arith}
use Rattle.std.proofs.lemmas.Bool.{cases_eq, cases_lt}
use Rattle.vm_map.specs.Map.{lookup_at, next_key}
use Rattle.vm_tree_model.specs.Layout.{Layout, IsLayout}
use Rattle.vm_tree_model.specs.Node.{Node, Covers, IsNode, Names, IsTreeOf}
use Rattle.vm_tree_model.specs.Page.{IsClean, node_of}
use Rattle.vm_tree_model.specs.Tree.{page_at, node_at, IsTree, IsLeafAt, map_of}
use Rattle.vm_tree_model.specs.Merges.{IsJoined, IsMergeOf, IsCollapseOf}
use Rattle.vm_map.proofs.MapLemmas.{map_ext, lookup-above, lookup-below, found_left, found_right}
use Rattle.vm_tree_model.proofs.CollapseLaw.{IsCollapseStep, collapse_tree, named as collapse_named}
use Rattle.vm_tree_model.proofs.CollapseLaw.{named_right as collapse_named_right, next as collapse_next}
use Rattle.vm_tree_model.proofs.MergeLaw.{IsMergeStep, k_lt_s, merge_tree, p_rises, r_rises, p_low, p_high, r_low, s_lt_r_high}
use Rattle.vm_tree_model.proofs.Laws.{in_range, parted_leaves, lookup-map_of, Rises-map_of}

-- a page that is a node has the format of one
pub clean_node : (L : Layout) (laws : IsLayout L) (pages : List (List ℕ)) → IsTree L pages → (x : ℕ)
    → IsNode (node_at L pages x) → IsClean L (page_at pages x)
clean_node L laws pages tree x is =
    let range = in_range L laws pages tree x is in
    elim (tree.kind x range.0 range.1) [
      | inl free ↦ absurd (omega (arith, is, laws.free_tag _ free.zero))
      | inr kind ↦ elim kind [ inl leaf ↦ leaf.clean | inr inner ↦ inner.clean ]
    ]

-- the map after: a key of one of both leaves stands in the joined one, and any other where it stood
module _ (L : Layout) (laws : IsLayout L) (old new : List (List ℕ)) (q k p s r : ℕ) (tree : IsTree L old) (after : IsTree L new)
    (count : length new ≡ length old) (inner : (node_at L old q).tag ≡ 3) (named : Names (node_at L old) q k p)
    (named_right : Names (node_at L old) q s r)
    (next : next_key (node_at L old q).pairs (node_at L old q).high k ≡ s) (left_leaf : (node_at L old p).tag ≡ 2)
    (right_leaf : (node_at L old r).tag ≡ 2)
    (join : IsJoined L (page_at old p) (page_at old r) (page_at new p))
    (others : (x : ℕ) → 1 ≤ x → x ≢ q → x ≢ p → x ≢ r → page_at new x ≡ page_at old x) where
  abbrev root : ℕ
  root = get_or (page_at old 0) 1 0

  abbrev height : ℕ
  height = get_or (page_at old 0) 2 0

  p_range : (1 ≤ p) × (p < length old)
  p_range = in_range L laws old tree p (omega (arith, left_leaf), omega (arith, left_leaf))

  joined_leaf : IsLeafAt L new p
  joined_leaf = (p_range.0, rw count p_range.1, ap (λ (n : Node). n.tag) join.node ∙ left_leaf)

  low_is : (node_at L new p).low ≡ k
  low_is = ap (λ (n : Node). n.low) join.node ∙ p_low (node_at L old) (node_at L new) root height q k p s r tree.tree
      named named_right next left_leaf right_leaf

  high_is : (node_at L new p).high ≡ (node_at L old r).high
  high_is = ap (λ (n : Node). n.high) join.node

  from_left : (key : ℕ) → Covers (node_at L old p) key → lookup_at (map_of L new) key ≡ lookup_at (node_at L old p).pairs key
  from_left key covers =
      let high : (node_at L old p).high ≡ s = p_high (node_at L old) (node_at L new) root height q k p s r tree.tree
      named named_right next left_leaf right_leaf in
      let low : (node_at L old p).low ≡ k = p_low (node_at L old) (node_at L new) root height q k p s r tree.tree
      named named_right next left_leaf right_leaf in
      let rises = r_rises (node_at L old) (node_at L new) root height q k p s r tree.tree named named_right next left_leaf right_leaf in
      let none = lookup-below (node_at L old r).pairs s (node_at L old r).high key rises (omega (arith, high, covers.1)) in
      let upto : s < (node_at L old r).high = s_lt_r_high (node_at L old) (node_at L new) root height q k p s r
      tree.tree named named_right next left_leaf right_leaf in
      lookup-map_of L laws new after p key joined_leaf (omega (arith, low_is, low, covers.0), omega (arith, high_is, high, covers.1, upto))
      ∙ ap (λ (n : Node). lookup_at n.pairs key) join.node
      ∙ found_left (node_at L old p).pairs (node_at L old r).pairs key none

  from_right : (key : ℕ) → Covers (node_at L old r) key → lookup_at (map_of L new) key ≡ lookup_at (node_at L old r).pairs key
  from_right key covers =
      let low : (node_at L old r).low ≡ s = r_low (node_at L old) (node_at L new) root height q k p s r tree.tree
      named named_right next left_leaf right_leaf in
      let rises = p_rises (node_at L old) (node_at L new) root height q k p s r tree.tree named named_right next left_leaf right_leaf in
      let below : k < s = k_lt_s (node_at L old) (node_at L new) root height q k p s r tree.tree named named_right
      next left_leaf right_leaf in
      let none = lookup-above (node_at L old p).pairs (node_at L old p).low s key rises (omega (arith, low, covers.0)) in
      lookup-map_of L laws new after p key joined_leaf (omega (arith, low_is, low, below, covers.0), omega (arith, high_is, covers.1))
      ∙ ap (λ (n : Node). lookup_at n.pairs key) join.node
      ∙ found_right (node_at L old p).pairs (node_at L old r).pairs key none

  found_at : (key x : ℕ) → IsLeafAt L old x → Covers (node_at L old x) key → lookup_at (map_of L new) key ≡ lookup_at (map_of L old) key
  found_at key x at covers = elim (cases_eq x p) [
    | inl e ↦ from_left key (rw e at covers) ∙ ap (λ y. lookup_at (node_at L old y).pairs key) (sym e)
        ∙ sym (lookup-map_of L laws old tree x key at covers)
    | inr np ↦ elim (cases_eq x r) [
      | inl e ↦ from_right key (rw e at covers) ∙ ap (λ y. lookup_at (node_at L old y).pairs key) (sym e)
          ∙ sym (lookup-map_of L laws old tree x key at covers)
      | inr nr ↦
          let nq : x ≢ q = λ e. omega (arith, inner, at.2, ap (λ y. (node_at L old y).tag) e) in
          let same = others x at.0 nq np nr in
          lookup-map_of L laws new after x key (at.0, rw count at.1, rw (node_at, same) at.2)
          (rw (node_at, same) covers) ∙ ap (λ (w : List ℕ). lookup_at (L.node_of w).pairs key) same
          ∙ sym (lookup-map_of L laws old tree x key at covers)
    ]
  ]

  pub joined_map : map_of L new ≡ map_of L old
  joined_map = map_ext _ _ 0 L.key_end (Rises-map_of L laws new after) (Rises-map_of L laws old tree)
      (λ key. elim (cases_lt key L.key_end) [
        | inl lt ↦ let (x, at, covers) = (parted_leaves L laws old tree).some key lt in found_at key x at covers
        | inr past ↦ lookup-above _ 0 L.key_end key (Rises-map_of L laws new after) past
            ∙ sym (lookup-above _ 0 L.key_end key (Rises-map_of L laws old tree) past)
      ])

module _ (L : Layout) (laws : IsLayout L) (old new : List (List ℕ)) (q k p s r : ℕ) (tree : IsTree L old)
    (m : IsMergeOf L old new q k p s r) where
  merge_step : IsMergeStep (node_at L old) (node_at L new) q k p s r
  merge_step = record {
    named = (m.inner, m.names);
    named_right = (m.inner, m.names_right);
    next = m.next;
    left_leaf = m.left_leaf;
    right_leaf = m.right_leaf;
    parent = m.parent.node;
    left = m.left.node;
    right = laws.free_tag _ m.right.zero;
    others = λ x nq np nr. ap (node_of L) (m.others x nq np nr);
  }

  merged : IsTreeOf L.key_end (node_at L new) (get_or (page_at old 0) 1 0) (get_or (page_at old 0) 2 0)
  merged = merge_tree (node_at L old) (node_at L new) _ _ q k p s r tree.tree merge_step

  pub merged_tree : IsTree L new
  merged_tree = record {
    meta = rw (m.zero, m.same_count) tree.meta;
    kind = λ x ge lt. elim (cases_eq x q) [
      | inl e ↦ let tag : (node_at L new q).tag ≡ 3 = ap (λ (n : Node). n.tag) m.parent.node ∙ m.inner in
          inr (inr (rw e (record {
            clean = m.parent.clean (clean_node L laws old tree q (omega (arith, m.inner), omega (arith, m.inner)));
            node = merged.inner q tag;
          })))
      | inr nq ↦ elim (cases_eq x p) [
        | inl e ↦ let tag : (node_at L new p).tag ≡ 2 = ap (λ (n : Node). n.tag) m.left.node ∙ m.left_leaf in
            inr (inl (rw e (record {
              clean = m.left.clean (clean_node L laws old tree p
                  (omega (arith, m.left_leaf), omega (arith, m.left_leaf)))
                  (clean_node L laws old tree r (omega (arith, m.right_leaf), omega (arith, m.right_leaf)));
              node = merged.leaf p tag;
            })))
        | inr np ↦ elim (cases_eq x r) [
          | inl e ↦ inl (rw e m.right)
          | inr nr ↦ rw (m.others x nq np nr) (tree.kind x ge (rw m.same_count at lt))
        ]
      ]
    ];
    tree = rw m.zero merged;
  }

  pub merged_map : map_of L new ≡ map_of L old
  merged_map = joined_map L laws old new q k p s r tree merged_tree m.same_count m.inner (m.inner, m.names)
      (m.inner, m.names_right) m.next m.left_leaf m.right_leaf m.left (λ x _. m.others x)

module _ (L : Layout) (laws : IsLayout L) (old new : List (List ℕ)) (q k p s r : ℕ) (tree : IsTree L old)
    (m : IsCollapseOf L old new q k p s r) where
  rooted : IsTreeOf L.key_end (node_at L old) q (get_or (page_at old 0) 2 0)
  rooted = subst (λ x. IsTreeOf L.key_end (node_at L old) x (get_or (page_at old 0) 2 0)) m.root tree.tree

  zero_old : IsNode (node_at L old 0) → ⊥
  zero_old is = laws.meta_tag _ tree.meta.magic is

  zero_new : IsNode (node_at L new 0) → ⊥
  zero_new is = laws.meta_tag _ m.meta.magic is

  collapse_step : IsCollapseStep (node_at L old) (node_at L new) q k p s r
  collapse_step = record {
    inner = m.inner;
    pairs = m.pairs;
    left_leaf = m.left_leaf;
    right_leaf = m.right_leaf;
    left = m.left.node;
    right = laws.free_tag _ m.right.zero;
    gone = laws.free_tag _ m.gone.zero;
    others = λ x is nq np nr. elim (cases_eq x 0) [
      | inl e ↦ absurd (elim is [ inl o ↦ zero_old (rw e at o) | inr n ↦ zero_new (rw e at n) ])
      | inr ge ↦ ap (node_of L) (m.others x (omega (arith, ge)) nq np nr)
    ];
  }

  collapsed : IsTreeOf L.key_end (node_at L new) p 0
  collapsed = collapse_tree (node_at L old) (node_at L new) _ q k p s r rooted collapse_step

  pub collapsed_tree : IsTree L new
  collapsed_tree = record {
    meta = m.meta;
    kind = λ x ge lt. elim (cases_eq x q) [
      | inl e ↦ inl (rw e m.gone)
      | inr nq ↦ elim (cases_eq x p) [
        | inl e ↦ let tag : (node_at L new p).tag ≡ 2 = ap (λ (n : Node). n.tag) m.left.node ∙ m.left_leaf in
            inr (inl (rw e (record {
              clean = m.left.clean (clean_node L laws old tree p
                  (omega (arith, m.left_leaf), omega (arith, m.left_leaf)))
                  (clean_node L laws old tree r (omega (arith, m.right_leaf), omega (arith, m.right_leaf)));
              node = collapsed.leaf p tag;
            })))
        | inr np ↦ elim (cases_eq x r) [
          | inl e ↦ inl (rw e m.right)
          | inr nr ↦ rw (m.others x ge nq np nr) (tree.kind x ge (rw m.same_count at lt))
        ]
      ]
    ];
    tree = rw (m.new_root, m.new_height) collapsed;
  }

  pub collapsed_map : map_of L new ≡ map_of L old
  collapsed_map = joined_map L laws old new q k p s r tree collapsed_tree m.same_count m.inner
      (collapse_named (node_at L old) (node_at L new) _ q k p s r rooted collapse_step)
      (collapse_named_right (node_at L old) (node_at L new) _ q k p s r rooted collapse_step)
      (collapse_next (node_at L old) (node_at L new) _ q k p s r rooted collapse_step) m.left_leaf m.right_leaf m.left m.others
