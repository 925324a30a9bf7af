-- The release of two leaves that became one, after a key was removed from one of them, keeps what the tree keeps.
use Rattle.std.proofs.Common.{◌≡◌, ◌≢◌, ◌⊎◌, ◌||◌, inl, inr, ℕ, ◌+◌, ◌*◌, ◌-◌, ◌≤◌, ◌==◌, Bool, true, false}
use Rattle.std.proofs.Common.{true≢false, List, [], ◌∷◌, ◌++◌, length, set, Some, eq-eqb, refl, sym, ap, ◌∙◌, subst}
use Rattle.std.proofs.Common.{arith, length-set, get_or-set_same, get_or-set_other}
use Rattle.std.proofs.lemmas.Bool.{cases_eq, false_from_ne_true}
use Rattle.std.proofs.lemmas.Bool.Decides.{nat_tests}
use Rattle.std.proofs.Math.Nat.{mul-le-mul_left}
use Rattle.vm_map.specs.Map.{lookup_at, del_pair, next_key}
use Rattle.vm_map.specs.declared.call.Said.{Said}
use Rattle.vm_map.specs.declared.call.Call.TheVariants.{Del}
use Rattle.vm_map.specs.declared.call.Reply.TheVariants.{Gone}
use Rattle.vm_page.specs.Pages.{all_zero}
use Rattle.vm_tree_model.specs.Node.{Node, IsNode}
use Rattle.vm_tree_model.specs.Page.{pairs_of, node_of, IsFree}
use Rattle.vm_tree_model.specs.Tree.{page_at, node_at, IsLeafAt}
use Rattle.vm_tree_model.specs.Count.{excess, is_node, node_count}
use Rattle.vm_tree_model.specs.Layout.{Layout, IsLayout, size}
use Rattle.vm_tree_model.proofs.Load.{load, load_of, load-set}
use Rattle.vm_tree_model.specs.Merges.{IsMergeOf}
use Rattle.vm_tree_model.proofs.LeafPages.{IsLeafReplaced}
use Rattle.vm_tree_model.proofs.MergePages.{merged_map, merged_tree}
use Rattle.vm_owner.specs.Numbers.{has, AreApart}
use Rattle.vm_owner.specs.declared.Entry.{Entry}
use Rattle.vm_owner.specs.Kept.{Start, Kept, Change, changed_pages, Agrees, changed, entries_under, frees, owed_after, after_release}
use Rattle.vm_owner.proofs.NumberLemmas.{without-none}
use Rattle.vm_owner.proofs.ChangeLemmas.{length-changed, changed-other, changed-here, sum-changed, total}
use Rattle.vm_tree_laws.specs.History.{gones, news}
use Rattle.vm_tree_laws.specs.Keeps.{KeepsTree, merge_weight}
use Rattle.vm_tree_laws.specs.May.{IsEdit, MayMerge}
use Rattle.vm_tree_laws.proofs.Among.{has_behind, has_first, none_of_three, third}
use Rattle.vm_tree_laws.proofs.Halves.{IsOther, counted, counted_node, counted_other, load_at, load_other}
use Rattle.vm_tree_laws.proofs.GroupReleases.{regroup_keeps}
use Rattle.vm_tree_laws.proofs.LeafReleases.{del_grows, edit_keeps, paid_left, replaced, same_count}
use Rattle.vm_tree_laws.proofs.Nodes.{leaf_by_tag, not_owed}
use Rattle.vm_tree_laws.proofs.Payments.{merge_pays}
use Rattle.vm_tree_laws.proofs.Weights.{size-del, weighs_less}
use Rattle.vm_tree_laws.proofs.Zeros.{free_words, node_words}

-- ---- the pages without the key, between the edit of one leaf and the merge

module _ (L : Layout) (laws : IsLayout L) (start : Start) (kept : Kept Said) (keeps : KeepsTree L start kept) (l : ℕ)
    (mid : List ℕ) (tag : (node_at L kept.pages l).tag ≡ 2) (e : Entry Said)
    (turn : e.count ≡ entries_under e.number kept.history + 1)
    (key value : ℕ) (said : e.said ≡ record {
      call = Del key;
      reply = Gone (Some value);
    }) (edit : IsEdit L (page_at kept.pages l) mid (Del key) (Gone (Some value))) where
  abbrev pub between : Kept Said
  between = record kept { pages = set kept.pages l mid; history = kept.history ++ e ∷ [] }

  leaf_at : IsLeafAt L kept.pages l
  leaf_at = leaf_by_tag L laws start kept keeps l tag

  pub between_keeps : KeepsTree L start between
  between_keeps = rw (without-none l kept.owed (not_owed L laws start kept keeps l (omega (arith, tag), omega (arith, tag)))) at
      (edit_keeps L laws start kept keeps l mid leaf_at e turn (Del key) (Gone (Some value)) said edit)

  mid_replaced : IsLeafReplaced L kept.pages l mid
  mid_replaced = replaced L laws start kept keeps l mid leaf_at e turn _ edit.2

  pub between_left : L.node_weight * kept.next + L.excess_weight * excess L (set kept.pages l mid) + merge_weight L
      ≤ L.excess_weight * (L.room - L.base) * node_count L start.pages + L.excess_weight * L.growth * news
      (kept.history ++ e ∷ []) + merge_weight L * gones (kept.history ++ e ∷ []) + L.node_weight
      * (start.next + length kept.owed)
  between_left =
      let less = paid_left L laws start kept keeps l mid leaf_at e turn mid_replaced (Del key) (Gone (Some value))
      said (del_grows L laws start kept keeps l mid leaf_at e turn _ edit.2 key refl) in
      let one : merge_weight L * 1 ≡ merge_weight L = omega arith in
      omega (arith, less, one)

  pub between_here : page_at (set kept.pages l mid) l ≡ mid
  between_here = get_or-set_same kept.pages l mid [] leaf_at.1

  pub between_other : (x : ℕ) → x ≢ l → page_at (set kept.pages l mid) x ≡ page_at kept.pages x
  between_other x ne = get_or-set_other kept.pages l x mid [] ne

  pub between_count : length (set kept.pages l mid) ≡ length kept.pages
  between_count = length-set kept.pages l mid

  pub between_load : load L (set kept.pages l mid) + load_of L (page_at kept.pages l) ≡ load L kept.pages + load_of L mid
  between_load = load-set L kept.pages l mid leaf_at.1

  pub between_nodes : node_count L (set kept.pages l mid) ≡ node_count L kept.pages
  between_nodes = same_count L laws start kept keeps l mid leaf_at e turn mid_replaced

  -- it is a leaf still
  pub between_leaf : (node_of L mid).tag ≡ 2
  between_leaf = edit.2.leaf.node.tag

-- of leaves p and r one lost the key, and they say left and right then
pub record HasLost (L : Layout) (pages : List (List ℕ)) (p r : ℕ) (left right : List ℕ) (key value : ℕ) : Type 0 where
  pub l : ℕ
  pub mid : List ℕ
  pub tag : (node_at L pages l).tag ≡ 2
  pub edit : IsEdit L (page_at pages l) mid (Del key) (Gone (Some value))
  pub one : (l ≡ p) ⊎ (l ≡ r)
  pub at_left : page_at (set pages l mid) p ≡ left
  pub at_right : page_at (set pages l mid) r ≡ right
  pub tag_left : (node_of L left).tag ≡ 2
  pub tag_right : (node_of L right).tag ≡ 2
  pub weighs : load L (set pages l mid) + load_of L (page_at pages p) + load_of L (page_at pages r)
      ≡ load L pages + load_of L left + load_of L right

module _ (L : Layout) (laws : IsLayout L) (start : Start) (kept : Kept Said) (keeps : KeepsTree L start kept) (p r : ℕ)
    (left right : List ℕ) (e : Entry Said) (turn : e.count ≡ entries_under e.number kept.history + 1) (key value : ℕ)
    (said : e.said ≡ record {
      call = Del key;
      reply = Gone (Some value);
    }) where
  pub has_lost : p ≢ r → (node_at L kept.pages p).tag ≡ 2 → (node_at L kept.pages r).tag ≡ 2
      → (IsEdit L (page_at kept.pages p) left (Del key) (Gone (Some value)) × (right ≡ page_at kept.pages r))
      ⊎ ((left ≡ page_at kept.pages p) × IsEdit L (page_at kept.pages r) right (Del key) (Gone (Some value)))
      → HasLost L kept.pages p r left right key value
  has_lost ne tag_p tag_r (inl d) = record {
    l = p;
    mid = left;
    tag = tag_p;
    edit = d.0;
    one = inl refl;
    at_left = between_here L laws start kept keeps p left tag_p e turn key value said d.0;
    at_right = between_other L laws start kept keeps p left tag_p e turn key value said d.0 r (λ s. ne (sym s)) ∙ sym d.1;
    tag_left = between_leaf L laws start kept keeps p left tag_p e turn key value said d.0;
    tag_right = rw (d.1) tag_r;
    weighs = let load = between_load L laws start kept keeps p left tag_p e turn key value said d.0 in
        omega (arith, load, ap (load_of L) d.1);
  }
  has_lost ne tag_p tag_r (inr d) = record {
    l = r;
    mid = right;
    tag = tag_r;
    edit = d.1;
    one = inr refl;
    at_left = between_other L laws start kept keeps r right tag_r e turn key value said d.1 p ne ∙ sym d.0;
    at_right = between_here L laws start kept keeps r right tag_r e turn key value said d.1;
    tag_left = rw (d.0) tag_p;
    tag_right = between_leaf L laws start kept keeps r right tag_r e turn key value said d.1;
    weighs = let load = between_load L laws start kept keeps r right tag_r e turn key value said d.1 in
        omega (arith, load, ap (load_of L) d.0);
  }

-- what a node weighs at least
pub node_load : (L : Layout) (w : List ℕ) → IsNode (node_of L w) → L.node_weight ≤ load_of L w
node_load L w is = let at = load_at L w is in omega (arith, at)

pub leaf_load : (L : Layout) (w : List ℕ) → (node_of L w).tag ≡ 2 → L.node_weight ≤ load_of L w
leaf_load L w tag = node_load L w (omega (arith, tag), omega (arith, tag))

-- and one that two leaves became, at most
pub joined_load : (L : Layout) (w : List ℕ) → IsNode (node_of L w) → size L (node_of L w) ≤ L.merge_room
    → load_of L w ≤ L.node_weight + merge_weight L
joined_load L w is few =
    let at = load_at L w is in
    let more : L.excess_weight * (size L (node_of L w) - L.base) ≤ merge_weight L = mul-le-mul_left L.excess_weight (omega (arith, few)) in
    omega (arith, at, more)

pub free_other : (L : Layout) (laws : IsLayout L) (w : List ℕ) → IsFree L w → IsOther (node_of L w)
free_other L laws w free = let tag = laws.free_tag _ free.zero in ((λ e. omega (arith, tag, e)), (λ e. omega (arith, tag, e)))

-- a change that is the third, or the second, of those that follow is among them
pub frees_page : (c : Change) (cs : List Change) → all_zero c.old ≡ false → all_zero c.new ≡ true → frees (c ∷ cs) c.page ≡ true
frees_page c cs old new = rw (eq-eqb c.page c.page refl) (rw old (rw new refl))

pub frees_behind : (c : Change) (cs : List Change) (p : ℕ) → frees cs p ≡ true → frees (c ∷ cs) p ≡ true
frees_behind c cs p some = go _ (frees cs p) some
  where
    go : (a b : Bool) → b ≡ true → (a || b) ≡ true
    go true b e = refl
    go false b e = e

-- ---- below the root

module _ (L : Layout) (laws : IsLayout L) (start : Start) (kept : Kept Said) (keeps : KeepsTree L start kept)
    (q p r : ℕ) (parent left right : List ℕ) (e : Entry Said)
    (turn : e.count ≡ entries_under e.number kept.history + 1) where
  abbrev old : List (List ℕ)
  old = kept.pages

  abbrev parent_change : Change
  parent_change = record { page = q; old = page_at old q; new = parent }

  abbrev left_change : Change
  left_change = record { page = p; old = page_at old p; new = left }

  abbrev right_change : Change
  right_change = record { page = r; old = page_at old r; new = right }

  abbrev changes : List Change
  changes = parent_change ∷ left_change ∷ right_change ∷ []

  abbrev new : List (List ℕ)
  new = changed changes old

  module _ (may : MayMerge L parent_change left_change right_change e.said) (agrees : Agrees old changes)
      (apart : AreApart (changed_pages changes)) where
    q_is : IsNode (node_at L old q)
    q_is = let tag = may.inner in (omega (arith, tag), omega (arith, tag))

    p_is : IsNode (node_at L old p)
    p_is = let tag = may.left_leaf in (omega (arith, tag), omega (arith, tag))

    r_is : IsNode (node_at L old r)
    r_is = let tag = may.right_leaf in (omega (arith, tag), omega (arith, tag))

    are_nodes : (x : ℕ) → has x (changed_pages changes) ≡ true → IsNode (node_at L old x)
    are_nodes x some = elim (cases_eq x q) [
      | inl s ↦ rw s q_is
      | inr xq ↦ elim (cases_eq x p) [ inl s ↦ rw s p_is | inr xp ↦ rw (third x q p r some xq xp) r_is ]
    ]

    q_ne_p : q ≢ p
    q_ne_p = let none = apart.0 in grind (arith, nat_tests, none)

    q_ne_r : q ≢ r
    q_ne_r = let none = apart.0 in grind (arith, nat_tests, none)

    p_ne_r : p ≢ r
    p_ne_r = let none = apart.1.0 in grind (arith, nat_tests, none)

    at_q : page_at new q ≡ parent
    at_q = changed-here parent_change (left_change ∷ right_change ∷ []) old apart.0 agrees.0

    at_p : page_at new p ≡ left
    at_p = changed-here left_change (right_change ∷ []) (set old q parent) apart.1.0 (rw length-set agrees.2.0)

    at_r : page_at new r ≡ right
    at_r = changed-here right_change [] (set (set old q parent) p left) refl (rw (length-set, length-set) agrees.2.2.0)

    owed_same : owed_after changes kept.owed ≡ kept.owed
    owed_same = rw (without-none q kept.owed (not_owed L laws start kept keeps q q_is))
        (rw (without-none p kept.owed (not_owed L laws start kept keeps p p_is))
        (without-none r kept.owed (not_owed L laws start kept keeps r r_is)))

    parent_tag : (node_of L parent).tag ≡ 3
    parent_tag = ap (λ (n : Node). n.tag) may.takes.node ∙ may.inner

    parent_node : IsNode (node_of L parent)
    parent_node = (omega (arith, parent_tag), omega (arith, parent_tag))

    right_other : IsOther (node_of L right)
    right_other = free_other L laws right may.zeroed

    sum : load L new + total (λ c. load_of L c.old) changes ≡ load L old + total (λ c. load_of L c.new) changes
    sum = sum-changed (load_of L) changes old agrees apart

    parent_load : load_of L parent ≤ load_of L (page_at old q) + 0
    parent_load =
        let node : node_of L parent ≡ record (node_at L old q) {
          pairs =
              del_pair (pairs_of L (page_at old q)) may.separator;
        } = may.takes.node in
        let less = size-del L.pair_size (pairs_of L (page_at old q)) may.separator in
        let sizes : size L (node_of L parent) ≡ size L
        (record (node_at L old q) { pairs = del_pair (pairs_of L (page_at old q)) may.separator }) =
        ap (size L) node in
        let tags : is_node L parent ≡ is_node L (page_at old q) = ap (λ (n : Node). n.tag == 2 || n.tag == 3) node in
        weighs_less L parent (page_at old q) 0 tags (omega (arith, sizes, less))

    -- one node less
    fewer_nodes : IsNode (node_of L left) → node_count L old ≡ node_count L new + 1
    fewer_nodes left_is = omega (
      arith,
      sum-changed (counted L) changes old agrees apart,
      counted_node L parent
          parent_node,
      counted_node L left left_is,
      counted_other L right right_other,
      counted_node L (page_at old q)
          q_is,
      counted_node L (page_at old p) p_is,
      counted_node L (page_at old r) r_is,
    )

    -- the key was removed from one of them
    module _ (lost : HasLost L old p r may.left_mid may.right_mid may.key may.value) where
      abbrev l : ℕ
      l = lost.l

      abbrev mids : List (List ℕ)
      mids = set old l lost.mid

      left_tag : (node_of L left).tag ≡ 2
      left_tag = ap (λ (n : Node). n.tag) may.joined.node ∙ lost.tag_left

      left_is : IsNode (node_of L left)
      left_is = (omega (arith, left_tag), omega (arith, left_tag))

      less : load L new + L.node_weight * 1 ≤ load L mids + merge_weight L
      less = omega (
        arith,
        sum,
        parent_load,
        load_other L right right_other,
        joined_load L left left_is may.few,
        lost.weighs,
        leaf_load L may.left_mid lost.tag_left,
        leaf_load L may.right_mid lost.tag_right,
      )

      fewer : node_count L mids ≡ node_count L new + 1
      fewer = omega (
        arith,
        fewer_nodes left_is,
        between_nodes L laws start kept keeps l lost.mid lost.tag e turn may.key may.value may.said_is lost.edit,
      )

      among : has l (changed_pages changes) ≡ true
      among = elim lost.one [
        | inl s ↦ rw s (has_behind p q (p ∷ r ∷ []) (has_first p (r ∷ [])))
        | inr s ↦ rw s (has_behind r q (p ∷ r ∷ []) (has_behind r p (r ∷ []) (has_first r [])))
      ]

      nq : q ≢ l
      nq same = elim lost.one [ inl s ↦ q_ne_p (same ∙ s) | inr s ↦ q_ne_r (same ∙ s) ]

      stays : (x : ℕ) → x ≢ l → page_at mids x ≡ page_at old x
      stays = between_other L laws start kept keeps l lost.mid lost.tag e turn may.key may.value may.said_is lost.edit

      at_parent : page_at mids q ≡ page_at old q
      at_parent = stays q nq

      out : (x : ℕ) → has x (changed_pages changes) ≡ false → x ≢ l
      out x none same = true≢false (sym among ∙ ap (λ y. has y (changed_pages changes)) (sym same) ∙ none)

      others : (x : ℕ) → has x (changed_pages changes) ≡ false → page_at new x ≡ page_at mids x
      others x none = changed-other changes old x none ∙ sym (stays x (out x none))

      count : length new ≡ length mids
      count = length-changed changes old
          ∙ sym (between_count L laws start kept keeps l lost.mid lost.tag e turn may.key may.value may.said_is lost.edit)

      page_zero : has 0 (changed_pages changes) ≡ false
      page_zero = false_from_ne_true _ (λ some. laws.meta_tag _ keeps.tree.meta.magic (are_nodes 0 some))

      merge : IsMergeOf L mids new q may.low p may.separator r
      merge = record {
        same_count = count;
        zero = others 0 page_zero;
        inner = ap (λ (w : List ℕ). (node_of L w).tag) at_parent ∙ may.inner;
        names = ap (λ (w : List ℕ). lookup_at (pairs_of L w) may.low) at_parent ∙ may.names;
        names_right = ap (λ (w : List ℕ). lookup_at (pairs_of L w) may.separator) at_parent ∙ may.names_right;
        next = subst (λ (w : List ℕ). next_key (pairs_of L w) (node_of L w).high may.low ≡ may.separator) (sym at_parent) may.next;
        left_leaf = ap (λ (w : List ℕ). (node_of L w).tag) lost.at_left ∙ lost.tag_left;
        right_leaf = ap (λ (w : List ℕ). (node_of L w).tag) lost.at_right ∙ lost.tag_right;
        parent = rw (at_parent, at_q) may.takes;
        left = rw (lost.at_left, lost.at_right, at_p) may.joined;
        right = rw at_r may.zeroed;
        others = λ x nq np nr. others x (none_of_three x q p r nq np nr);
      }

      used : (x : ℕ) → has x (changed_pages changes) ≡ true → (all_zero (page_at new x) ≡ false) ⊎ (frees changes x ≡ true)
      used x some = elim (cases_eq x q) [
        | inl s ↦ inl (rw s (rw at_q (node_words L laws parent parent_node)))
        | inr xq ↦ elim (cases_eq x p) [
          | inl s ↦ inl (rw s (rw at_p (node_words L laws left left_is)))
          | inr xp ↦ let s : x ≡ r = third x q p r some xq xp in
              inr (rw s (frees_behind parent_change (left_change ∷ right_change ∷ []) r
              (frees_behind left_change (right_change ∷ []) r
              (frees_page right_change [] (node_words L laws (page_at old r) r_is)
              (free_words L right may.zeroed)))))
        ]
      ]

      was_keeps : KeepsTree L start (between L laws start kept keeps l lost.mid lost.tag e turn may.key may.value may.said_is lost.edit)
      was_keeps = between_keeps L laws start kept keeps l lost.mid lost.tag e turn may.key may.value may.said_is lost.edit

      edit_merge_keeps : KeepsTree L start (after_release changes (e ∷ []) kept)
      edit_merge_keeps = regroup_keeps L laws start
          (between L laws start kept keeps l lost.mid lost.tag e turn may.key may.value may.said_is lost.edit) was_keeps
          (changed_pages changes) new (owed_after changes kept.owed) (frees changes) (merge_weight L)
          (between_left L laws start kept keeps l lost.mid lost.tag e turn may.key may.value may.said_is lost.edit) (record {
            same_count = count;
            tree = merged_tree L laws mids new q may.low p may.separator r was_keeps.tree merge;
            contents = merged_map L laws mids new q may.low p may.separator r was_keeps.tree merge;
            others = others;
            apart = rw owed_same keeps.owed.apart;
            owed_was = λ x some. let some' : has x kept.owed ≡ true = ap (has x) (sym owed_same) ∙ some in (some', not_in x some');
            owed_stays = λ x none some. ap (has x) owed_same ∙ some;
            used = used;
            room = omega (arith, less, laws.joins);
            paid = rw owed_same (let pays = merge_pays L mids new 1 (merge_weight L) fewer less in omega (arith, pays));
          })
        where
          not_in : (x : ℕ) → has x kept.owed ≡ true → has x (changed_pages changes) ≡ false
          not_in x some = false_from_ne_true _
              (λ in_it. true≢false (sym some ∙ not_owed L laws start kept keeps x (are_nodes x in_it)))

    pub merge_keeps : KeepsTree L start (after_release changes (e ∷ []) kept)
    merge_keeps = edit_merge_keeps
        (has_lost L laws start kept keeps p r may.left_mid may.right_mid e turn may.key may.value may.said_is p_ne_r
        may.left_leaf may.right_leaf may.deletes)
