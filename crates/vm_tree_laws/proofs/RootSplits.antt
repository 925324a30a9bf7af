-- The release of page 0, the old root, its sibling and the new root after a split of the root keeps what the tree keeps.
use Rattle.std.proofs.Common.{◌≡◌, ◌≢◌, ◌⊎◌, inl, inr, ℕ, ◌+◌, ◌-◌, ◌*◌, ◌<◌, ◌≤◌, true, false, List, [], ◌∷◌, length}
use Rattle.std.proofs.Common.{get_or, set, take, drop, Some, refl, sym, ap, ◌∙◌, subst, arith, length-set}
use Rattle.std.proofs.Common.{get_or-set_same, get_or-set_other}
use Rattle.std.proofs.lemmas.Bool.{cases_eq}
use Rattle.std.proofs.lemmas.Bool.Decides.{nat_tests}
use Rattle.vm_tree_model.specs.Layout.{Layout, IsLayout}
use Rattle.vm_map.specs.Map.{Pairs, lookup_at, put_pair}
use Rattle.vm_tree_model.specs.Node.{Node, IsNode}
use Rattle.vm_tree_model.specs.Page.{pairs_of, node_of, IsFree, IsMeta}
use Rattle.vm_tree_model.specs.Tree.{page_at, node_at}
use Rattle.vm_tree_model.specs.Count.{excess, node_count}
use Rattle.vm_tree_model.proofs.Load.{load_of, load}
use Rattle.vm_tree_model.specs.Layout.{IsClean, cut, size}
use Rattle.vm_tree_model.proofs.Laws.{in_range}
use Rattle.vm_tree_laws.proofs.Payments.{split_pays}
use Rattle.vm_tree_model.proofs.SplitLaw.{IsSplitStep}
use Rattle.vm_tree_model.proofs.RootSplit.{root_page, height_word, with_top, with_top-same, with_top-other}
use Rattle.vm_tree_model.proofs.RootSplit.{with_top-zero, IsRootSplit, root_split_tree, root_split_map}
use Rattle.vm_owner.specs.Numbers.{has, without, AreApart}
use Rattle.vm_owner.specs.Kept.{Start, Kept, Change, changed_pages, Agrees, changed, owed_after, after_release}
use Rattle.vm_owner.proofs.NumberLemmas.{without-none, without-few, AreApart-without}
use Rattle.vm_owner.proofs.ChangeLemmas.{length-changed, changed-other, changed-here, sum-changed}
use Rattle.vm_map.specs.declared.call.Said.{Said}
use Rattle.vm_tree_laws.specs.Keeps.{KeepsTree}
use Rattle.vm_tree_laws.specs.May.{MaySplitRoot}
use Rattle.vm_tree_laws.proofs.GroupReleases.{group_keeps}
use Rattle.vm_tree_laws.proofs.Halves.{IsOther, counted, counted_node, counted_other, load_at, load_other, halves}
use Rattle.vm_tree_laws.proofs.Halves.{left_some, starts, separator_above, left_node, right_node, half_loads}
use Rattle.vm_tree_laws.proofs.Nodes.{other_not_owed, not_owed, clean_at, rises_at}

-- page 0 with another root and height
pub grown_meta : (L : Layout) (laws : IsLayout L) (pages s height : ℕ) (w : List ℕ) → IsMeta L pages w → 1 ≤ s
    → s < pages → IsMeta L pages (set (set w 1 s) 2 height)
grown_meta L laws pages s height w meta ge lt = record {
  length = length-set (set w 1 s) 2 height ∙ length-set w 1 s ∙ meta.length;
  magic = same 0 (λ e. omega (arith, e)) (λ e. omega (arith, e)) ∙ meta.magic;
  root_low = rw root ge;
  root_high = rw root lt;
  rest = λ i le. same i (λ e. omega (arith, le, e)) (λ e. omega (arith, le, e)) ∙ meta.rest i le;
}
  where
    same : (i : ℕ) → i ≢ 1 → i ≢ 2 → get_or (set (set w 1 s) 2 height) i 0 ≡ get_or w i 0
    same i one two = get_or-set_other (set w 1 s) 2 i height 0 two ∙ get_or-set_other w 1 i s 0 one

    root : get_or (set (set w 1 s) 2 height) 1 0 ≡ s
    root = get_or-set_other (set w 1 s) 2 1 height 0 (λ e. omega (arith, e)) ∙ get_or-set_same w 1 s 0
        (omega (arith, meta.length, laws.some_words))

-- the new root's pairs
two_pairs : (left separator right : ℕ) → 0 < separator → put_pair ((0, left) ∷ []) separator right ≡ (0, left) ∷ (separator, right) ∷ []
two_pairs left separator right above = grind (arith, nat_tests, above)

module _ (L : Layout) (laws : IsLayout L) (start : Start) (kept : Kept Said) (keeps : KeepsTree L start kept)
    (r s : ℕ) (meta root sibling top : List ℕ) where
  abbrev old : List (List ℕ)
  old = kept.pages

  abbrev p : ℕ
  p = root_page old

  abbrev meta_change : Change
  meta_change = record { page = 0; old = page_at old 0; new = meta }

  abbrev root_change : Change
  root_change = record { page = p; old = page_at old p; new = root }

  abbrev sibling_change : Change
  sibling_change = record { page = r; old = page_at old r; new = sibling }

  abbrev top_change : Change
  top_change = record { page = s; old = page_at old s; new = top }

  abbrev changes : List Change
  changes = meta_change ∷ root_change ∷ sibling_change ∷ top_change ∷ []

  abbrev new : List (List ℕ)
  new = changed changes old

  module _ (may : MaySplitRoot L meta_change root_change sibling_change top_change)
      (agrees : Agrees old changes) (apart : AreApart (changed_pages changes)) where
    p_is : IsNode (node_at L old p)
    p_is = keeps.tree.tree.root_is

    p_clean : IsClean L (page_at old p)
    p_clean = clean_at L laws start kept keeps p p_is

    s_above : 1 ≤ s
    s_above = let none = apart.0 in grind (arith, nat_tests, none)

    p_ne_s : p ≢ s
    p_ne_s = let none = apart.1.0 in grind (arith, nat_tests, none)

    r_ne_s : r ≢ s
    r_ne_s = let none = apart.1.1.0 in grind (arith, nat_tests, none)

    r_above : 1 ≤ r
    r_above = let none = apart.0 in grind (arith, nat_tests, none)

    at_zero : page_at new 0 ≡ meta
    at_zero = changed-here meta_change (root_change ∷ sibling_change ∷ top_change ∷ []) old apart.0 agrees.0

    at_p : page_at new p ≡ root
    at_p = changed-here root_change (sibling_change ∷ top_change ∷ []) (set old 0 meta) apart.1.0 (rw length-set agrees.2.0)

    at_r : page_at new r ≡ sibling
    at_r = changed-here sibling_change (top_change ∷ []) (set (set old 0 meta) p root) apart.1.1.0
        (rw (length-set, length-set) agrees.2.2.0)

    at_s : page_at new s ≡ top
    at_s = changed-here top_change [] (set (set (set old 0 meta) p root) r sibling) refl
        (rw (length-set, length-set, length-set) agrees.2.2.2.0)

    others : (x : ℕ) → 1 ≤ x → x ≢ s → x ≢ p → x ≢ r → page_at new x ≡ page_at old x
    others x ge ns np nr = let nz : x ≢ 0 = λ e. omega (arith, ge, e) in
        changed-other changes old x (grind (arith, nat_tests, nz, ns, np, nr))

    above : 0 < may.separator
    above = separator_above L laws (page_at old p) root sibling may.separator p_clean may.full may.split
        (node_at L old p).low (node_at L old p).high (rises_at L laws start kept keeps p p_is)

    over_p : with_top L old new s p ≡ node_at L old p
    over_p = with_top-other L old new s p (in_range L laws old keeps.tree p p_is).0 p_ne_s

    over_r : with_top L old new s r ≡ node_at L old r
    over_r = with_top-other L old new s r r_above r_ne_s

    over_s : with_top L old new s s ≡ record { tag = 3; level = height_word old + 1; low = 0; high = L.key_end; pairs = (0, p) ∷ [] }
    over_s = with_top-same L old new s

    same : (x : ℕ) → x ≢ s → x ≢ p → x ≢ r → node_at L new x ≡ with_top L old new s x
    same x ns np nr = elim (cases_eq x 0) [
      | inl e ↦ rw e (sym (with_top-zero L old new s s_above))
      | inr nz ↦ let ge : 1 ≤ x = omega (arith, nz) in ap (node_of L) (others x ge ns np nr) ∙ sym (with_top-other L old new s x ge ns)
    ]

    step : IsSplitStep (with_top L old new s) (node_at L new) s 0 p r may.separator
        (take (cut L (pairs_of L (page_at old p))) (pairs_of L (page_at old p)))
        (drop (cut L (pairs_of L (page_at old p))) (pairs_of L (page_at old p)))
    step = record {
      named = subst (λ (n : Node). (n.tag ≡ 3) × (lookup_at n.pairs 0 ≡ Some p)) (sym over_s) (refl, refl);
      free = ap (λ (n : Node). n.tag) over_r ∙ laws.free_tag _ may.free.zero;
      halves = ap (λ (n : Node). n.pairs) over_p ∙ halves L laws (page_at old p) root sibling may.separator p_clean may.full may.split;
      left_some = left_some L laws (page_at old p) root sibling may.separator p_clean may.full may.split;
      starts = starts L laws (page_at old p) root sibling may.separator p_clean may.full may.split;
      parent = ap (node_of L) at_s ∙ may.grows.node
          ∙ ap (λ (l : Pairs). record {
            tag = 3;
            level = height_word old + 1;
            low = 0;
            high = L.key_end;
            pairs = l;
          }) (sym (two_pairs p may.separator r above))
          ∙ ap (λ (n : Node). record n { pairs = put_pair n.pairs may.separator r }) (sym over_s);
      left = ap (node_of L) at_p ∙ may.split.left_is ∙ ap (λ (n : Node). record n {
        high = may.separator;
        pairs = take (cut L (pairs_of L (page_at old p))) (pairs_of L (page_at old p));
      }) (sym over_p);
      right = ap (node_of L) at_r ∙ may.split.right_is ∙ ap (λ (n : Node). record n {
        low = may.separator;
        pairs = drop (cut L (pairs_of L (page_at old p))) (pairs_of L (page_at old p));
      }) (sym over_p);
      others = same;
    }

    meta_is : page_at new 0 ≡ set (set (page_at old 0) 1 s) 2 (height_word old + 1)
    meta_is = at_zero ∙ may.meta_new

    meta_length : length (page_at old 0) ≡ L.words
    meta_length = keeps.tree.meta.length

    pages : IsRootSplit L old new s r may.separator
        (take (cut L (pairs_of L (page_at old p))) (pairs_of L (page_at old p)))
        (drop (cut L (pairs_of L (page_at old p))) (pairs_of L (page_at old p)))
    pages = record {
      same_count = length-changed changes old;
      meta = rw (meta_is, length-changed changes old)
          (grown_meta L laws (length old) s (height_word old + 1) (page_at old 0) keeps.tree.meta s_above
          agrees.2.2.2.0);
      new_root = ap (λ (w : List ℕ). get_or w 1 0) meta_is ∙ get_or-set_other (set (page_at old 0) 1 s) 2 1
          (height_word old + 1) 0 (λ e. omega (arith, e)) ∙ get_or-set_same (page_at old 0) 1 s 0
          (omega (arith, meta_length, laws.some_words));
      new_height = ap (λ (w : List ℕ). get_or w 2 0) meta_is ∙ get_or-set_same (set (page_at old 0) 1 s) 2
          (height_word old + 1) 0 (omega (arith, length-set (page_at old 0) 1 s, meta_length, laws.some_words));
      top_page = s_above;
      free = laws.free_tag _ may.free_top.zero;
      clean_top = rw at_s may.grows.clean;
      clean_left = rw at_p (may.split.left_clean (clean_at L laws start kept keeps p p_is));
      clean_right = rw at_r (may.split.right_clean (clean_at L laws start kept keeps p p_is));
      step = step;
      others = others;
    }

    top_node : IsNode (node_of L top)
    top_node = let tag : (node_of L top).tag ≡ 3 = ap (λ (n : Node). n.tag) may.grows.node in (omega (arith, tag), omega (arith, tag))

    root_node : IsNode (node_of L root)
    root_node = left_node L laws (page_at old p) root sibling may.separator p_clean may.full may.split p_is

    sibling_node : IsNode (node_of L sibling)
    sibling_node = right_node L laws (page_at old p) root sibling may.separator p_clean may.full may.split p_is

    free_other : (w : List ℕ) → IsFree L w → IsOther (node_of L w)
    free_other w free = let tag = laws.free_tag _ free.zero in ((λ e. omega (arith, tag, e)), (λ e. omega (arith, tag, e)))

    none_at : (w : List ℕ) → get_or w 0 0 ≡ L.magic → IsOther (node_of L w)
    none_at w magic = (
      (λ e. laws.meta_tag w magic (omega (arith, e), omega (arith, e))),
      (λ e. laws.meta_tag w magic (omega (arith, e), omega (arith, e))),
    )

    old_meta : IsOther (node_at L old 0)
    old_meta = none_at (page_at old 0) keeps.tree.meta.magic

    new_meta : IsOther (node_of L meta)
    new_meta = none_at meta (ap (λ (w : List ℕ). get_or w 0 0) (sym at_zero) ∙ pages.meta.magic)

    top_load : load_of L top ≡ L.node_weight
    top_load =
        let sizes : size L (node_of L top) ≡ L.fence_size 0 + L.fence_size
        L.key_end + (L.pair_size 0 + (L.pair_size may.separator + 0)) = ap (size L) may.grows.node in
        let small : size L (node_of L top) - L.base ≡ 0 = omega (arith, sizes, laws.new_root may.separator) in
        load_at L top top_node ∙ rw small (omega arith)

    room : load L new ≤ load L old
    room = let paid = (half_loads L laws (page_at old p) root sibling may.separator p_clean may.full may.split p_is).1 in
        omega (arith, sum-changed (load_of L) changes old agrees apart, load_other L meta new_meta, top_load, paid)

    more_nodes : node_count L new ≡ node_count L old + 2
    more_nodes = omega (
      arith,
      sum-changed (counted L) changes old agrees apart,
      counted_other L meta new_meta,
      counted_node L root root_node,
      counted_node L sibling sibling_node,
      counted_node L top top_node,
      counted_other L (page_at old 0) old_meta,
      counted_node L (page_at old p) p_is,
      counted_other L (page_at old r) (free_other (page_at old r) may.free),
      counted_other L (page_at old s) (free_other (page_at old s) may.free_top),
    )

    zero_not_owed : has 0 kept.owed ≡ false
    zero_not_owed = other_not_owed L laws start kept keeps 0 (λ free. omega (arith, free, keeps.tree.meta.magic, laws.some_magic))

    -- the pages of the sibling and of the new root may be owed, and are not any more
    fewer_owed : length kept.owed ≤ length (owed_after changes kept.owed) + 2
    fewer_owed = rw (without-none 0 kept.owed zero_not_owed) (rw (without-none p kept.owed (not_owed L laws start kept keeps p p_is))
        (omega (
          arith,
          without-few r kept.owed keeps.owed.apart,
          without-few s (without r kept.owed)
              (AreApart-without r kept.owed keeps.owed.apart),
        )))

    paid : L.excess_weight * excess L new + L.node_weight * length kept.owed ≤ L.excess_weight * excess L
        old + L.node_weight * length (owed_after changes kept.owed)
    paid = split_pays L old new 2 (length kept.owed) (length (owed_after changes kept.owed)) room more_nodes fewer_owed

    nodes : (x : ℕ) → has x (changed_pages changes) ≡ true → (x ≡ 0) ⊎ IsNode (node_at L new x)
    nodes x some = elim (cases_eq x 0) [
      | inl e ↦ inl e
      | inr nz ↦ elim (cases_eq x p) [
        | inl e ↦ inr (rw e (subst (λ w. IsNode (node_of L w)) (sym at_p) root_node))
        | inr np ↦ elim (cases_eq x r) [
          | inl e ↦ inr (rw e (subst (λ w. IsNode (node_of L w)) (sym at_r) sibling_node))
          | inr nr ↦ let e : x ≡ s = grind (arith, nat_tests, some, nz, np, nr) in
              inr (rw e (subst (λ w. IsNode (node_of L w)) (sym at_s) top_node))
        ]
      ]
    ]

    pub root_split_keeps : KeepsTree L start (after_release changes [] kept)
    root_split_keeps = group_keeps L laws start kept keeps changes record {
      tree = root_split_tree L laws old new s r may.separator _ _ keeps.tree pages;
      contents = root_split_map L laws old new s r may.separator _ _ keeps.tree pages;
      nodes = nodes;
      room = room;
      paid = paid;
    }
