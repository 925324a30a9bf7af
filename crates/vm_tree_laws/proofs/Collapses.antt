-- The release of the last two leaves under the root, which became one, after a key was removed from one of them, keeps what the tree keeps.
use Rattle.std.proofs.Common.{◌≡◌, ◌≢◌, ◌⊎◌, inl, inr, ℕ, ◌+◌, ◌*◌, ◌≤◌, true, false, true≢false, List, [], ◌∷◌}
use Rattle.std.proofs.Common.{length, get_or, set, refl, sym, ap, ◌∙◌, arith, length-set, get_or-set_same}
use Rattle.std.proofs.Common.{get_or-set_other}
use Rattle.std.proofs.lemmas.Bool.{cases_eq, false_from_ne_true}
use Rattle.std.proofs.lemmas.Bool.Decides.{nat_tests}
use Rattle.vm_map.specs.declared.call.Said.{Said}
use Rattle.vm_page.specs.Pages.{all_zero}
use Rattle.vm_tree_model.specs.Node.{Node, IsNode}
use Rattle.vm_tree_model.specs.Page.{pairs_of, node_of}
use Rattle.vm_tree_model.specs.Tree.{page_at, node_at}
use Rattle.vm_tree_model.specs.Count.{node_count}
use Rattle.vm_tree_model.specs.Layout.{Layout, IsLayout}
use Rattle.vm_tree_model.proofs.Load.{load, load_of}
use Rattle.vm_tree_model.specs.Merges.{IsCollapseOf}
use Rattle.vm_tree_model.proofs.Laws.{in_range}
use Rattle.vm_tree_model.proofs.MergePages.{collapsed_map, collapsed_tree}
use Rattle.vm_tree_model.proofs.RootSplit.{root_page}
use Rattle.vm_owner.specs.Numbers.{has, AreApart}
use Rattle.vm_owner.specs.declared.Entry.{Entry}
use Rattle.vm_owner.specs.Kept.{Start, Kept, Change, changed_pages, Agrees, changed, entries_under, frees, owed_after, after_release}
use Rattle.vm_owner.proofs.NumberLemmas.{without-none}
use Rattle.vm_owner.proofs.ChangeLemmas.{length-changed, changed-other, changed-here, sum-changed, total}
use Rattle.vm_tree_laws.specs.Keeps.{KeepsTree, merge_weight}
use Rattle.vm_tree_laws.specs.May.{MayCollapse}
use Rattle.vm_tree_laws.proofs.Among.{fourth}
use Rattle.vm_tree_laws.proofs.Halves.{IsOther, counted, counted_node, counted_other, load_other}
use Rattle.vm_tree_laws.proofs.Payments.{merge_pays}
use Rattle.vm_tree_laws.proofs.GroupReleases.{regroup_keeps}
use Rattle.vm_tree_laws.proofs.Merges.{between, between_count, between_keeps, between_left, between_nodes, between_other}
use Rattle.vm_tree_laws.proofs.Merges.{free_other, frees_behind, frees_page, has_lost, HasLost, joined_load, leaf_load, node_load}
use Rattle.vm_tree_laws.proofs.Nodes.{not_owed, other_not_owed}
use Rattle.vm_tree_laws.proofs.RootSplits.{grown_meta}
use Rattle.vm_tree_laws.proofs.Zeros.{free_words, node_words, other_words}

module _ (L : Layout) (laws : IsLayout L) (start : Start) (kept : Kept Said) (keeps : KeepsTree L start kept)
    (p r : ℕ) (meta root left right : List ℕ) (e : Entry Said)
    (turn : e.count ≡ entries_under e.number kept.history + 1) where
  abbrev old : List (List ℕ)
  old = kept.pages

  abbrev q : ℕ
  q = root_page old

  abbrev meta_change : Change
  meta_change = record { page = 0; old = page_at old 0; new = meta }

  abbrev root_change : Change
  root_change = record { page = q; old = page_at old q; new = root }

  abbrev left_change : Change
  left_change = record { page = p; old = page_at old p; new = left }

  abbrev right_change : Change
  right_change = record { page = r; old = page_at old r; new = right }

  abbrev changes : List Change
  changes = meta_change ∷ root_change ∷ left_change ∷ right_change ∷ []

  abbrev new : List (List ℕ)
  new = changed changes old

  module _ (may : MayCollapse L meta_change root_change left_change right_change e.said) (agrees : Agrees old changes)
      (apart : AreApart (changed_pages changes)) where
    q_is : IsNode (node_at L old q)
    q_is = let tag = may.inner in (omega (arith, tag), omega (arith, tag))

    p_is : IsNode (node_at L old p)
    p_is = let tag = may.left_leaf in (omega (arith, tag), omega (arith, tag))

    r_is : IsNode (node_at L old r)
    r_is = let tag = may.right_leaf in (omega (arith, tag), omega (arith, tag))

    q_ne_p : q ≢ p
    q_ne_p = let none = apart.1.0 in grind (arith, nat_tests, none)

    q_ne_r : q ≢ r
    q_ne_r = let none = apart.1.0 in grind (arith, nat_tests, none)

    p_ne_r : p ≢ r
    p_ne_r = let none = apart.1.1.0 in grind (arith, nat_tests, none)

    p_above : 1 ≤ p
    p_above = (in_range L laws old keeps.tree p p_is).0

    at_zero : page_at new 0 ≡ meta
    at_zero = changed-here meta_change (root_change ∷ left_change ∷ right_change ∷ []) old apart.0 agrees.0

    at_q : page_at new q ≡ root
    at_q = changed-here root_change (left_change ∷ right_change ∷ []) (set old 0 meta) apart.1.0 (rw length-set agrees.2.0)

    at_p : page_at new p ≡ left
    at_p = changed-here left_change (right_change ∷ []) (set (set old 0 meta) q root) apart.1.1.0 (rw (length-set, length-set) agrees.2.2.0)

    at_r : page_at new r ≡ right
    at_r = changed-here right_change [] (set (set (set old 0 meta) q root) p left) refl
        (rw (length-set, length-set, length-set) agrees.2.2.2.0)

    zero_not_owed : has 0 kept.owed ≡ false
    zero_not_owed = other_not_owed L laws start kept keeps 0 (λ free. omega (arith, free, keeps.tree.meta.magic, laws.some_magic))

    owed_same : owed_after changes kept.owed ≡ kept.owed
    owed_same = rw (without-none 0 kept.owed zero_not_owed) (rw (without-none q kept.owed (not_owed L laws start kept keeps q q_is))
        (rw (without-none p kept.owed (not_owed L laws start kept keeps p p_is))
        (without-none r kept.owed (not_owed L laws start kept keeps r r_is))))

    sum : load L new + total (λ c. load_of L c.old) changes ≡ load L old + total (λ c. load_of L c.new) changes
    sum = sum-changed (load_of L) changes old agrees apart

    meta_is : page_at new 0 ≡ set (set (page_at old 0) 1 p) 2 0
    meta_is = at_zero ∙ may.meta_new

    meta_length : length (page_at old 0) ≡ L.words
    meta_length = keeps.tree.meta.length

    none_at : (w : List ℕ) → get_or w 0 0 ≡ L.magic → IsOther (node_of L w)
    none_at w magic = (
      (λ e. laws.meta_tag w magic (omega (arith, e), omega (arith, e))),
      (λ e. laws.meta_tag w magic (omega (arith, e), omega (arith, e))),
    )

    meta_other : IsOther (node_of L meta)
    meta_other = none_at meta
        (ap (λ (w : List ℕ). get_or w 0 0) may.meta_new ∙ get_or-set_other (set (page_at old 0) 1 p) 2 0 0 0
        (λ s. omega (arith, s)) ∙ get_or-set_other (page_at old 0) 1 0 p 0 (λ s. omega (arith, s))
        ∙ keeps.tree.meta.magic)

    root_other : IsOther (node_of L root)
    root_other = free_other L laws root may.gone

    right_other : IsOther (node_of L right)
    right_other = free_other L laws right may.zeroed

    -- two nodes less
    fewer_nodes : IsNode (node_of L left) → node_count L old ≡ node_count L new + 2
    fewer_nodes left_is = omega (
      arith,
      sum-changed (counted L) changes old agrees apart,
      counted_other L meta meta_other,
      counted_other L root root_other,
      counted_node L left left_is,
      counted_other L right right_other,
      counted_other L (page_at old 0) (none_at (page_at old 0) keeps.tree.meta.magic),
      counted_node L (page_at old q) q_is,
      counted_node L (page_at old p) p_is,
      counted_node L (page_at old r) r_is,
    )

    -- the key was removed from one of them
    module _ (lost : HasLost L old p r may.left_mid may.right_mid may.key may.value) where
      abbrev l : ℕ
      l = lost.l

      abbrev mids : List (List ℕ)
      mids = set old l lost.mid

      left_tag : (node_of L left).tag ≡ 2
      left_tag = ap (λ (n : Node). n.tag) may.joined.node ∙ lost.tag_left

      left_is : IsNode (node_of L left)
      left_is = (omega (arith, left_tag), omega (arith, left_tag))

      less : load L new + L.node_weight * 2 ≤ load L mids + merge_weight L
      less = omega (
        arith,
        sum,
        load_other L meta meta_other,
        load_other L root root_other,
        load_other L right right_other,
        joined_load L left left_is may.few,
        lost.weighs,
        leaf_load L may.left_mid lost.tag_left,
        leaf_load L may.right_mid lost.tag_right,
        node_load L (page_at old q) q_is,
      )

      fewer : node_count L mids ≡ node_count L new + 2
      fewer = omega (
        arith,
        fewer_nodes left_is,
        between_nodes L laws start kept keeps l lost.mid lost.tag e turn may.key may.value may.said_is lost.edit,
      )

      among : has l (changed_pages changes) ≡ true
      among = elim lost.one [ inl s ↦ rw s (grind (arith, nat_tests)) | inr s ↦ rw s (grind (arith, nat_tests)) ]

      nq : q ≢ l
      nq same = elim lost.one [ inl s ↦ q_ne_p (same ∙ s) | inr s ↦ q_ne_r (same ∙ s) ]

      above : 1 ≤ l
      above = (in_range L laws old keeps.tree l (omega (arith, lost.tag), omega (arith, lost.tag))).0

      stays : (x : ℕ) → x ≢ l → page_at mids x ≡ page_at old x
      stays = between_other L laws start kept keeps l lost.mid lost.tag e turn may.key may.value may.said_is lost.edit

      at_root : page_at mids q ≡ page_at old q
      at_root = stays q nq

      zero_stays : page_at mids 0 ≡ page_at old 0
      zero_stays = stays 0 (λ s. omega (arith, s, above))

      out : (x : ℕ) → has x (changed_pages changes) ≡ false → x ≢ l
      out x none same = true≢false (sym among ∙ ap (λ y. has y (changed_pages changes)) (sym same) ∙ none)

      others : (x : ℕ) → has x (changed_pages changes) ≡ false → page_at new x ≡ page_at mids x
      others x none = changed-other changes old x none ∙ sym (stays x (out x none))

      count : length new ≡ length mids
      count = length-changed changes old
          ∙ sym (between_count L laws start kept keeps l lost.mid lost.tag e turn may.key may.value may.said_is lost.edit)

      collapse : IsCollapseOf L mids new q may.low p may.separator r
      collapse = record {
        same_count = count;
        root = ap (λ (w : List ℕ). get_or w 1 0) zero_stays;
        meta = rw (meta_is, length-changed changes old)
            (grown_meta L laws (length old) p 0 (page_at old 0) keeps.tree.meta p_above agrees.2.2.0);
        new_root = ap (λ (w : List ℕ). get_or w 1 0) meta_is ∙ get_or-set_other (set (page_at old 0) 1 p) 2 1 0 0
            (λ s. omega (arith, s)) ∙ get_or-set_same (page_at old 0) 1 p 0
            (omega (arith, meta_length, laws.some_words));
        new_height = ap (λ (w : List ℕ). get_or w 2 0) meta_is ∙ get_or-set_same (set (page_at old 0) 1 p) 2 0 0
            (omega (arith, length-set (page_at old 0) 1 p, meta_length, laws.some_words));
        inner = ap (λ (w : List ℕ). (node_of L w).tag) at_root ∙ may.inner;
        pairs = ap (λ (w : List ℕ). pairs_of L w) at_root ∙ may.pairs;
        left_leaf = ap (λ (w : List ℕ). (node_of L w).tag) lost.at_left ∙ lost.tag_left;
        right_leaf = ap (λ (w : List ℕ). (node_of L w).tag) lost.at_right ∙ lost.tag_right;
        left = rw (lost.at_left, lost.at_right, at_p) may.joined;
        right = rw at_r may.zeroed;
        gone = rw at_q may.gone;
        others = λ x ge nq np nr. let nz : x ≢ 0 = λ s. omega (arith, ge, s) in others x (grind (arith, nat_tests, nz, nq, np, nr));
      }

      used : (x : ℕ) → has x (changed_pages changes) ≡ true → (all_zero (page_at new x) ≡ false) ⊎ (frees changes x ≡ true)
      used x some = elim (cases_eq x 0) [
        | inl s ↦ inl (rw s (other_words (page_at new 0) (λ zeros. omega (arith, zeros 0, collapse.meta.magic, laws.some_magic))))
        | inr xz ↦ elim (cases_eq x q) [
          | inl s ↦ inr (rw s (frees_behind meta_change (root_change ∷ left_change ∷ right_change ∷ []) q
              (frees_page root_change (left_change ∷ right_change ∷ []) (node_words L laws (page_at old q) q_is)
              (free_words L root may.gone))))
          | inr xq ↦ elim (cases_eq x p) [
            | inl s ↦ inl (rw s (rw at_p (node_words L laws left left_is)))
            | inr xp ↦ let s : x ≡ r = fourth x 0 q p r some xz xq xp in
                inr (rw s (frees_behind meta_change (root_change ∷ left_change ∷ right_change ∷ []) r
                (frees_behind root_change (left_change ∷ right_change ∷ []) r
                (frees_behind left_change (right_change ∷ []) r
                (frees_page right_change [] (node_words L laws (page_at old r) r_is) (free_words L right may.zeroed))))))
          ]
        ]
      ]

      was_keeps : KeepsTree L start (between L laws start kept keeps l lost.mid lost.tag e turn may.key may.value may.said_is lost.edit)
      was_keeps = between_keeps L laws start kept keeps l lost.mid lost.tag e turn may.key may.value may.said_is lost.edit

      edit_collapse_keeps : KeepsTree L start (after_release changes (e ∷ []) kept)
      edit_collapse_keeps = regroup_keeps L laws start
          (between L laws start kept keeps l lost.mid lost.tag e turn may.key may.value may.said_is lost.edit) was_keeps
          (changed_pages changes) new (owed_after changes kept.owed) (frees changes) (merge_weight L)
          (between_left L laws start kept keeps l lost.mid lost.tag e turn may.key may.value may.said_is lost.edit) (record {
            same_count = count;
            tree = collapsed_tree L laws mids new q may.low p may.separator r was_keeps.tree collapse;
            contents = collapsed_map L laws mids new q may.low p may.separator r was_keeps.tree collapse;
            others = others;
            apart = rw owed_same keeps.owed.apart;
            owed_was = λ x some. let some' : has x kept.owed ≡ true = ap (has x) (sym owed_same) ∙ some in (some', not_in x some');
            owed_stays = λ x none some. ap (has x) owed_same ∙ some;
            used = used;
            room = omega (arith, less, laws.joins);
            paid = rw owed_same (let pays = merge_pays L mids new 2 (merge_weight L) fewer less in omega (arith, pays));
          })
        where
          not_in : (x : ℕ) → has x kept.owed ≡ true → has x (changed_pages changes) ≡ false
          not_in x some = false_from_ne_true _ (λ in_it. true≢false (sym some ∙ elim (cases_eq x 0) [
            | inl s ↦ rw s zero_not_owed
            | inr xz ↦ not_owed L laws start kept keeps x (elim (cases_eq x q) [
              | inl s ↦ rw s q_is
              | inr xq ↦ elim (cases_eq x p) [ inl s ↦ rw s p_is | inr xp ↦ rw (fourth x 0 q p r in_it xz xq xp) r_is ]
            ])
          ]))

    pub collapse_keeps : KeepsTree L start (after_release changes (e ∷ []) kept)
    collapse_keeps = edit_collapse_keeps
        (has_lost L laws start kept keeps p r may.left_mid may.right_mid e turn may.key may.value may.said_is p_ne_r
        may.left_leaf may.right_leaf may.deletes)
