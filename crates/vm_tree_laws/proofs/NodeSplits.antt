-- The release of parent, node and sibling after a split below the root keeps what the tree keeps.
use Rattle.std.proofs.Common.{◌≡◌, ◌≢◌, ◌⊎◌, inl, inr, ℕ, ◌+◌, ◌*◌, ◌≤◌, ◌==◌, ◌||◌, true, List, [], ◌∷◌, length}
use Rattle.std.proofs.Common.{get_or, set, take, drop, refl, sym, ap, ◌∙◌, subst, arith, length-set}
use Rattle.std.proofs.lemmas.Bool.{cases_eq}
use Rattle.std.proofs.lemmas.Bool.Decides.{nat_tests}
use Rattle.vm_tree_model.specs.Layout.{Layout, IsLayout}
use Rattle.vm_map.specs.Map.{put_pair}
use Rattle.vm_tree_model.specs.Node.{Node, IsNode}
use Rattle.vm_tree_model.specs.Page.{pairs_of, node_of}
use Rattle.vm_tree_model.specs.Tree.{page_at, node_at}
use Rattle.vm_tree_model.specs.Count.{excess, is_node, node_count}
use Rattle.vm_tree_model.proofs.Load.{load_of, load}
use Rattle.vm_tree_model.specs.Layout.{IsClean, cut, size}
use Rattle.vm_tree_model.proofs.Laws.{in_range}
use Rattle.vm_tree_laws.proofs.Weights.{size-put, weighs_more}
use Rattle.vm_tree_laws.proofs.Payments.{split_pays}
use Rattle.vm_tree_model.proofs.SplitLaw.{IsSplitStep}
use Rattle.vm_tree_model.proofs.SplitPages.{IsSplitPages, split_pages_tree, split_pages_map}
use Rattle.vm_owner.specs.Numbers.{has, AreApart}
use Rattle.vm_owner.specs.Kept.{Start, Kept, Change, changed_pages, Agrees, changed, owed_after, after_release}
use Rattle.vm_owner.proofs.NumberLemmas.{without-none, without-few}
use Rattle.vm_owner.proofs.ChangeLemmas.{length-changed, changed-other, changed-here, sum-changed}
use Rattle.vm_map.specs.declared.call.Said.{Said}
use Rattle.vm_tree_laws.specs.Keeps.{KeepsTree}
use Rattle.vm_tree_laws.specs.May.{MaySplit}
use Rattle.vm_tree_laws.proofs.GroupReleases.{group_keeps}
use Rattle.vm_tree_laws.proofs.Halves.{IsOther, counted, counted_node, counted_other, load_other, halves, left_some}
use Rattle.vm_tree_laws.proofs.Halves.{starts, left_node, right_node, half_loads}
use Rattle.vm_tree_laws.proofs.Nodes.{not_owed, clean_at}

module _ (L : Layout) (laws : IsLayout L) (start : Start) (kept : Kept Said) (keeps : KeepsTree L start kept)
    (q p r : ℕ) (parent node sibling : List ℕ) where
  abbrev old : List (List ℕ)
  old = kept.pages

  abbrev parent_change : Change
  parent_change = record { page = q; old = page_at old q; new = parent }

  abbrev node_change : Change
  node_change = record { page = p; old = page_at old p; new = node }

  abbrev sibling_change : Change
  sibling_change = record { page = r; old = page_at old r; new = sibling }

  abbrev changes : List Change
  changes = parent_change ∷ node_change ∷ sibling_change ∷ []

  abbrev new : List (List ℕ)
  new = changed changes old

  module _ (may : MaySplit L parent_change node_change sibling_change)
      (agrees : Agrees old changes) (apart : AreApart (changed_pages changes)) where
    q_is : IsNode (node_at L old q)
    q_is = let tag = may.inner in (omega (arith, tag), omega (arith, tag))

    p_is : IsNode (node_at L old p)
    p_is = keeps.tree.tree.child_is q may.key p (may.inner, may.names)

    p_clean : IsClean L (page_at old p)
    p_clean = clean_at L laws start kept keeps p p_is

    r_zero : (node_at L old r).tag ≡ 0
    r_zero = laws.free_tag _ may.free.zero

    at_q : page_at new q ≡ parent
    at_q = changed-here parent_change (node_change ∷ sibling_change ∷ []) old apart.0 agrees.0

    at_p : page_at new p ≡ node
    at_p = changed-here node_change (sibling_change ∷ []) (set old q parent) apart.1.0 (rw length-set agrees.2.0)

    at_r : page_at new r ≡ sibling
    at_r = changed-here sibling_change [] (set (set old q parent) p node) refl (rw (length-set, length-set) agrees.2.2.0)

    others : (x : ℕ) → x ≢ q → x ≢ p → x ≢ r → page_at new x ≡ page_at old x
    others x nq np nr = changed-other changes old x (grind (arith, nat_tests, nq, np, nr))

    -- page 0 is none of the three
    page_zero : page_at new 0 ≡ page_at old 0
    page_zero = others 0
        (λ e. laws.meta_tag _ keeps.tree.meta.magic (subst (λ x. IsNode (node_at L old x)) (sym e) q_is))
        (λ e. laws.meta_tag _ keeps.tree.meta.magic (subst (λ x. IsNode (node_at L old x)) (sym e) p_is))
        (λ e. omega (arith, ap (λ x. get_or (page_at old x) 0 0) e, may.free.zero 0, keeps.tree.meta.magic, laws.some_magic))

    r_other : IsOther (node_at L old r)
    r_other = let tag = r_zero in ((λ e. omega (arith, tag, e)), (λ e. omega (arith, tag, e)))

    step : IsSplitStep (node_at L old) (node_at L new) q may.key p r may.separator
        (take (cut L (pairs_of L (page_at old p))) (pairs_of L (page_at old p)))
        (drop (cut L (pairs_of L (page_at old p))) (pairs_of L (page_at old p)))
    step = record {
      named = (may.inner, may.names);
      free = r_zero;
      halves = halves L laws (page_at old p) node sibling may.separator p_clean may.full may.split;
      left_some = left_some L laws (page_at old p) node sibling may.separator p_clean may.full may.split;
      starts = starts L laws (page_at old p) node sibling may.separator p_clean may.full may.split;
      parent = ap (node_of L) at_q ∙ may.adds.node;
      left = ap (node_of L) at_p ∙ may.split.left_is;
      right = ap (node_of L) at_r ∙ may.split.right_is;
      others = λ x nq np nr. ap (node_of L) (others x nq np nr);
    }

    pages : IsSplitPages L old new (node_at L old) (get_or (page_at old 0) 1 0) (get_or (page_at old 0) 2 0) q may.key
        p r may.separator (take (cut L (pairs_of L (page_at old p))) (pairs_of L (page_at old p)))
        (drop (cut L (pairs_of L (page_at old p))) (pairs_of L (page_at old p)))
    pages = record {
      same_count = length-changed changes old;
      meta = rw (page_zero, length-changed changes old) keeps.tree.meta;
      root_word = ap (λ (w : List ℕ). get_or w 1 0) page_zero;
      height_word = ap (λ (w : List ℕ). get_or w 2 0) page_zero;
      parent = rw at_q (may.adds.clean (clean_at L laws start kept keeps q q_is));
      left = rw at_p (may.split.left_clean (clean_at L laws start kept keeps p p_is));
      right = rw at_r (may.split.right_clean (clean_at L laws start kept keeps p p_is));
      tree = keeps.tree.tree;
      same = λ x ge ne. refl;
      left_page = (in_range L laws old keeps.tree p p_is).0;
      inner = λ tag. omega (arith, tag, may.inner);
      step = step;
      others = λ x ge nq np nr. others x nq np nr;
    }

    parent_node : IsNode (node_of L parent)
    parent_node = let tag : (node_of L parent).tag ≡ (node_at L old q).tag = ap (λ (n : Node). n.tag) may.adds.node in
        (omega (arith, tag, q_is), omega (arith, tag, q_is))

    parent_load : load_of L parent ≤ load_of L (page_at old q) + L.excess_weight * L.growth * 1
    parent_load =
        let node : node_of L parent ≡ record (node_at L old q) {
          pairs =
              put_pair (pairs_of L (page_at old q)) may.separator r;
        } = may.adds.node in
        let more = size-put L.pair_size (pairs_of L (page_at old q)) may.separator r in
        let sizes : size L (node_of L parent) ≡ size L
        (record (node_at L old q) { pairs = put_pair (pairs_of L (page_at old q)) may.separator r }) =
        ap (size L) node in
        let tags : is_node L parent ≡ is_node L (page_at old q) = ap (λ (n : Node). n.tag == 2 || n.tag == 3) node in
        weighs_more L parent (page_at old q) tags (omega (arith, sizes, more, laws.grows may.separator))

    room : load L new ≤ load L old
    room = let paid = (half_loads L laws (page_at old p) node sibling may.separator p_clean may.full may.split p_is).0 in
        let free : load_of L (page_at old r) ≡ 0 = load_other L (page_at old r) r_other in
        omega (arith, sum-changed (load_of L) changes old agrees apart, parent_load, paid, free)

    sibling_node : IsNode (node_of L sibling)
    sibling_node = right_node L laws (page_at old p) node sibling may.separator p_clean may.full may.split p_is

    left_is_node : IsNode (node_of L node)
    left_is_node = left_node L laws (page_at old p) node sibling may.separator p_clean may.full may.split p_is

    more_nodes : node_count L new ≡ node_count L old + 1
    more_nodes = omega (
      arith,
      sum-changed (counted L) changes old agrees apart,
      counted_node L parent parent_node,
      counted_node L node left_is_node,
      counted_node L sibling sibling_node,
      counted_node L (page_at old q) q_is,
      counted_node L (page_at old p) p_is,
      counted_other L (page_at old r) r_other,
    )

    -- the sibling's page may be owed, and is not any more
    fewer_owed : length kept.owed ≤ length (owed_after changes kept.owed) + 1
    fewer_owed = rw (without-none q kept.owed (not_owed L laws start kept keeps q q_is))
        (rw (without-none p kept.owed (not_owed L laws start kept keeps p p_is))
        (without-few r kept.owed keeps.owed.apart))

    paid : L.excess_weight * excess L new + L.node_weight * length kept.owed ≤ L.excess_weight * excess L
        old + L.node_weight * length (owed_after changes kept.owed)
    paid = split_pays L old new 1 (length kept.owed) (length (owed_after changes kept.owed)) room more_nodes fewer_owed

    nodes : (x : ℕ) → has x (changed_pages changes) ≡ true → (x ≡ 0) ⊎ IsNode (node_at L new x)
    nodes x some = elim (cases_eq x q) [
      | inl e ↦ inr (rw e (subst (λ w. IsNode (node_of L w)) (sym at_q) parent_node))
      | inr nq ↦ elim (cases_eq x p) [
        | inl e ↦ inr (rw e (subst (λ w. IsNode (node_of L w)) (sym at_p) left_is_node))
        | inr np ↦ let e : x ≡ r = grind (arith, nat_tests, some, nq, np) in
            inr (rw e (subst (λ w. IsNode (node_of L w)) (sym at_r) sibling_node))
      ]
    ]

    pub split_keeps : KeepsTree L start (after_release changes [] kept)
    split_keeps = group_keeps L laws start kept keeps changes record {
      tree = split_pages_tree L laws old new _ _ _ _ _ _ _ _ _ _ keeps.tree pages;
      contents = split_pages_map L laws old new _ _ _ _ _ _ _ _ _ _ keeps.tree pages;
      nodes = nodes;
      room = room;
      paid = paid;
    }
