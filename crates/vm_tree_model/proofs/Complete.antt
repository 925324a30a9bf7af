-- A walk over a tree meets no fault.
use Rattle.std.proofs.Common.{◌≡◌, ℕ, zero, suc, ◌+◌, ◌-◌, ◌<◌, ◌≤◌, ◌≢◌, inl, inr, List, [], ◌∷◌, ◌++◌, length}
use Rattle.std.proofs.Common.{get_or, set, drop, Option, Some, None, Ok, Bool, true, false, not, ◌&&◌, eqb}
use Rattle.std.proofs.Common.{if◌then◌else◌, refl, arith, sym, ap, ◌∙◌, length-drop}
use Rattle.std.proofs.lemmas.Bool.{cases_eq, false_from_ne_true, and_from, eq-eqb, ne_eqb, le-leb, lt-ltb}
use Rattle.std.proofs.lemmas.List.{get_or-drop}
use Rattle.vm_tree_model.specs.Layout.{Layout, IsLayout}
use Rattle.vm_map.specs.Map.{Pairs, Rises}
use Rattle.vm_tree_model.specs.Node.{IsNode, Names}
use Rattle.vm_tree_model.specs.Page.{pairs_of, IsFree, IsMeta}
use Rattle.vm_tree_model.specs.Tree.{page_at, node_at, IsTree, leaf_part}
use Rattle.vm_map.proofs.MapLemmas.{found_low}
use Rattle.vm_tree_model.proofs.Levels.{level_le}
use Rattle.vm_tree_model.proofs.Laws.{most_level, levels_bounded, in_range}
use Rattle.vm_tree_model.specs.Walk.{Slot, first_key, children, slots_below, slot_fault, is_free, meta_fault}
use Rattle.vm_tree_model.specs.Reason.{Walked, fault_or, lost_or, first_lost, walk, root_slot, unseen_pages}
use Rattle.vm_tree_model.proofs.Tests.{Fills, no_fault, chain_from}
use Rattle.vm_tree_model.proofs.WordTests.{zeros_past-from, is_free-from}
use Rattle.vm_tree_model.proofs.Slots.{On, children_tell, on_either, Entry, stack_of, from_page, stack-from_page, on_from_page, IsChild}
use Rattle.vm_tree_model.proofs.Linked.{Seen, slot_at, NamedBy, Linked, with_parent, linked_step, seen_either, below_child}
use Rattle.vm_tree_model.proofs.Ordered.{Ordered, ordered_step}

pub unseen-less : (visited : List Bool) (p : ℕ) → p < length visited → get_or visited p false ≡ false
    → unseen_pages visited ≡ unseen_pages (set visited p true) + 1
unseen-less [] p lt unseen = absurd (omega arith)
unseen-less (true ∷ bs) zero lt unseen = absurd (cc)
unseen-less (false ∷ bs) zero lt unseen = omega arith
unseen-less (true ∷ bs) (suc p) lt unseen = unseen-less bs p (omega arith) unseen
unseen-less (false ∷ bs) (suc p) lt unseen = omega (arith, unseen-less bs p (omega arith) unseen)

-- the slots on the stack have pages that were not visited, each another one
abbrev pub Fresh : List Bool → List Entry → Type 0
Fresh visited [] = Unit {0}
Fresh visited (e ∷ es) = (get_or visited e.0.page false ≡ false) × ((x : Entry) → On x es → x.0.page ≢ e.0.page) × Fresh visited es

pub fault_or-None : (page : ℕ) (fault : Option ℕ) (rest : Walked) → fault ≡ None → fault_or page fault rest ≡ rest
fault_or-None page None rest none = refl
fault_or-None page (Some why) rest none = absurd (cc)

pub lost_or-None : (lost : Option ℕ) (rest : Walked) → lost ≡ None → lost_or lost rest ≡ rest
lost_or-None None rest none = refl
lost_or-None (Some page) rest none = absurd (cc)

-- where the unvisited pages are free, none is lost
none_lost : (L : Layout) (ws : List (List ℕ)) (visited : List Bool) (p : ℕ)
    → ((i : ℕ) → i < length ws → get_or visited (p + i) false ≡ false → IsFree L (page_at ws i))
    → first_lost L ws visited p ≡ None
none_lost L [] visited p each = refl
none_lost L (w ∷ ws) visited p each = go (get_or visited p false) (is_free L w)
    (λ unseen. is_free-from L w (each 0 (omega arith) (let at : p + 0 ≡ p = omega arith in rw at unseen)))
    (none_lost L ws visited (p + 1)
    (λ i lt unseen. each (suc i) (omega arith) (let at : p + suc i ≡ p + 1 + i = omega arith in rw at unseen)))
  where
    go : (seen free : Bool) → (seen ≡ false → free ≡ true) → first_lost L ws visited (p + 1) ≡ None
        → (if not seen && not free then Some p else (first_lost L) ws visited (p + 1)) ≡ None
    go true free is rest = rest
    go false true is rest = rest
    go false false is rest = absurd (let no = is refl in cc)

module _ (L : Layout) (laws : IsLayout L) (pages : List (List ℕ)) (tree : IsTree L pages) where
  -- a node fills a slot of its level and fences
  fills_node : (s : Slot) → IsNode (node_at L pages s.page) → (node_at L pages s.page).level ≡ s.level
      → (node_at L pages s.page).low ≡ s.low → (node_at L pages s.page).high ≡ s.high
      → Fills L (length pages) s (page_at pages s.page)
  fills_node s is level low high = record {
    level = level;
    low = low;
    high = high;
    kind = (let range = in_range L laws pages tree s.page is in elim (tree.kind s.page range.0 range.1) [
      | inl free ↦ absurd (omega (arith, is, laws.free_tag _ free.zero))
      | inr (inl leaf) ↦ inl (sym level ∙ leaf.node.level, leaf)
      | inr (inr inner) ↦ inr (
        omega (arith, inner.node.level, level),
        inner,
        λ k c found.
            in_range L laws pages tree c (tree.tree.child_is s.page k c (inner.node.tag, found)),
      )
    ]);
  }

  -- the slot that a page names is filled by the page that it names
  named_fills : (visited : List Bool) (q : ℕ) (s : Slot) → NamedBy L pages visited q s → Fills L (length pages) s (page_at pages s.page)
  named_fills visited q s (inl root) =
      rw root.1 (fills_node (root_slot L (page_at pages 0)) tree.tree.root_is tree.tree.root_level tree.tree.root_low tree.tree.root_high)
  named_fills visited q s (inr child) =
      let names = child.1.names in
      fills_node s (tree.tree.child_is q s.low s.page names)
      (omega (arith, tree.tree.child_level q s.low s.page names, child.1.level))
      (tree.tree.child_low q s.low s.page names) (tree.tree.child_high q s.low s.page names ∙ sym child.1.high)

  -- who names a slot's page was visited
  parent_seen : (visited : List Bool) (q p k : ℕ) (s : Slot) → NamedBy L pages visited q s
      → Names (node_at L pages) p k s.page → Seen visited p
  parent_seen visited q p k s (inl root) names =
      absurd (tree.tree.unnamed p k (let page : s.page ≡ get_or (page_at pages 0) 1 0 =
      ap (λ (x : Slot). x.page) root.1 in rw page at names))
  parent_seen visited q p k s (inr child) names = rw (tree.tree.once p q k s.low s.page names child.1.names) child.0

  module _ (visited : List Bool) (s : Slot) (q : ℕ) (es : List Entry) (parent : ℕ → ℕ)
      (linked : Linked L pages visited ((s, q) ∷ es) parent)
      (unseen : get_or visited s.page false ≡ false) (filled : Fills L (length pages) s (page_at pages s.page)) where
    inside : s.page < length visited
    inside = let range = linked.on_page (s, q) (inl refl) in omega (arith, range, linked.flags)

    not_self : (x : ℕ) → Seen visited x → x ≢ s.page
    not_self x seen same = cc (seen, unseen, ap (λ n. get_or visited n false) same)

    -- a child's page was not visited before
    child_unseen : (x : Slot) → IsChild (node_at L pages) s.page x → get_or (set visited s.page true) x.page false ≡ false
    child_unseen x child = false_from_ne_true _ (λ seen. elim (seen_either visited s.page inside x.page seen) [
      | inl same ↦ omega (arith, ap (λ n. (node_at L pages n).level) same, tree.tree.child_level s.page x.low x.page child.names)
      | inr old ↦ not_self s.page
          (parent_seen visited (parent x.page) s.page x.low (slot_at L pages x.page) (linked.seen_named x.page old.1)
          child.names) refl
    ])

    -- nor does it stand on the stack
    child_off : (x : Slot) (e : Entry) → IsChild (node_at L pages) s.page x → On e es → e.0.page ≢ x.page
    child_off x e child on same =
        not_self s.page (parent_seen visited e.1 s.page x.low e.0 (linked.on_named e (inr on)) (rw same child.names))
        refl

    fresh_old : (l : List Entry) → ((x : Entry) → On x l → x.0.page ≢ s.page) → Fresh visited l → Fresh (set visited s.page true) l
    fresh_old [] apart fresh = tt
    fresh_old (e ∷ l) apart fresh = (
      false_from_ne_true _ (λ seen. elim (seen_either visited s.page inside e.0.page seen) [
        | inl same ↦ apart e (inl refl) same
        | inr old ↦ (let no = fresh.0 in let yes = old.1 in cc)
      ]),
      fresh.1,
      fresh_old l (λ x on. apart x (inr on)) fresh.2,
    )

    fresh_children : (m : Pairs) (level low high : ℕ) → Rises low high m
        → ((x : Slot) → On x (children level m high) → IsChild (node_at L pages) s.page x)
        → Fresh (set visited s.page true) es → Fresh (set visited s.page true) (from_page s.page (children level m high) ++ es)
    fresh_children [] level low high r each fresh = fresh
    fresh_children (e ∷ m) level low high r each fresh =
        let first : IsChild (node_at L pages) s.page (record {
          page = e.1;
          level = level;
          low = e.0;
          high = first_key m high;
        }) = each _ (inl refl) in
        (child_unseen _ first, apart first, fresh_children m level (e.0 + 1) high r.2 (λ x on. each x (inr on)) fresh)
      where
        apart : IsChild (node_at L pages) s.page (record {
          page = e.1;
          level = level;
          low = e.0;
          high = first_key m high;
        }) → (x : Entry) → On x (from_page s.page (children level m high) ++ es) → x.0.page ≢ e.1
        apart first x on = elim (on_either x (from_page s.page (children level m high)) es on) [
          | inl new ↦ (λ same.
              let on_new = (on_from_page x s.page _ new).0 in
              let child = each x.0 (inr on_new) in
              let above = found_low m (e.0 + 1) high x.0.low x.0.page r.2 (children_tell m level (e.0 + 1) high x.0 r.2 on_new).found in
              omega (
                arith,
                above,
                ap (λ n. (node_at L pages n).low) same,
                tree.tree.child_low s.page e.0 e.1
                    first.names,
                tree.tree.child_low s.page x.0.low x.0.page child.names,
              ))
          | inr old ↦ child_off _ x first old
        ]

    fresh_step : Fresh visited ((s, q) ∷ es)
        → Fresh (set visited s.page true) (from_page s.page (slots_below L s (page_at pages s.page)) ++ es)
    fresh_step fresh =
        let old = fresh_old es fresh.1 fresh.2 in
        let each : (x : Slot) → On x (slots_below L s (page_at pages s.page)) → IsChild (node_at L pages) s.page x =
        (λ x on. (below_child L pages visited s q es parent linked unseen filled x on).0) in
        elim filled.kind [
          | inl leaf ↦ rw (eq-eqb s.level 0 leaf.0) old
          | inr inner ↦
              let no_zero : eqb s.level 0 ≡ false = ne_eqb s.level 0 (λ e. omega (arith, e, inner.0)) in
              rw no_zero (fresh_children (pairs_of L (page_at pages s.page)) (s.level - 1) s.low s.high
              (rw (← filled.low, ← filled.high) inner.1.node.rises) (rw no_zero at each) old)
        ]

  -- every node was visited once no slot is left
  module _ (visited : List Bool) (parent : ℕ → ℕ) (linked : Linked L pages visited [] parent) where
    seen_root : Seen visited (get_or (page_at pages 0) 1 0)
    seen_root = elim (linked.named 0 (root_slot L (page_at pages 0)) (inl (refl, refl))) [
      | inl on ↦ absurd on
      | inr done ↦ done.0
    ]

    -- so far below the root
    seen_down : (d p : ℕ) → IsNode (node_at L pages p) → get_or (page_at pages 0) 2 0 ≤ (node_at L pages p).level + d → Seen visited p
    seen_down zero p is le = elim (cases_eq p (get_or (page_at pages 0) 1 0)) [
      | inl same ↦ rw same seen_root
      | inr other ↦
          let (q, k, names) = tree.tree.named p is other in
          let tag : (node_at L pages q).tag ≡ 3 = names.0 in
          let top = level_le (node_at L pages) _ _ tree.tree (most_level L pages) (levels_bounded L pages) q (omega arith, omega arith) in
          absurd (omega (arith, top, tree.tree.child_level q k p names))
    ]
    seen_down (suc d) p is le = elim (cases_eq p (get_or (page_at pages 0) 1 0)) [
      | inl same ↦ rw same seen_root
      | inr other ↦
          let (q, k, names) = tree.tree.named p is other in
          let tag : (node_at L pages q).tag ≡ 3 = names.0 in
          let up = seen_down d q (omega arith, omega arith) (omega (arith, tree.tree.child_level q k p names)) in
          let child : IsChild (node_at L pages) q (slot_at L pages p) = record {
            names = rw (tree.tree.child_low q k p names) names;
            level = tree.tree.child_level q k p names;
            high = rw (tree.tree.child_low q k p names) (tree.tree.child_high q k p names);
          } in
          elim (linked.named q (slot_at L pages p) (inr (up, child))) [
            | inl on ↦ absurd on
            | inr done ↦ done.0
          ]
    ]

    none_is_lost : first_lost L (drop 1 pages) visited 1 ≡ None
    none_is_lost = none_lost L (drop 1 pages) visited 1
        (λ i lt unseen. rw (get_or-drop 1 pages i [])
        (free (1 + i) (omega arith) (omega (arith, length-drop 1 pages)) unseen))
      where
        free : (p : ℕ) → 1 ≤ p → p < length pages → get_or visited p false ≡ false → IsFree L (page_at pages p)
        free p some lt unseen = elim (tree.kind p some lt) [
          | inl zeros ↦ zeros
          | inr (inl leaf) ↦ absurd
              (let seen = seen_down _ p (omega (arith, leaf.node.tag), omega (arith, leaf.node.tag)) (le_add _ _) in
              cc)
          | inr (inr inner) ↦ absurd
              (let seen = seen_down _ p (omega (arith, inner.node.tag), omega (arith, inner.node.tag)) (le_add _ _) in
              cc)
        ]
          where
            le_add : (a b : ℕ) → b ≤ a + b
            le_add a b = omega arith

  -- with visits left for all unvisited pages, the walk ends without a fault
  pub completes : (left : ℕ) (entries : List Entry) (visited : List Bool) (rows : Pairs) (parent : ℕ → ℕ) (from : ℕ)
      → Linked L pages visited entries parent → Ordered L pages visited rows (stack_of entries) from
      → Fresh visited entries → left ≡ unseen_pages visited
      → (out : Pairs) × (walk L pages left (stack_of entries) visited rows ≡ Ok out)
  unfolding walk
  completes left [] visited rows parent from linked ordered fresh enough =
      (rows, lost_or-None (first_lost L (drop 1 pages) visited 1) (Ok rows) (none_is_lost visited parent linked))
  completes zero (e ∷ es) visited rows parent from linked ordered fresh enough =
      let range = linked.on_page e (inl refl) in
      absurd (omega (arith, unseen-less visited e.0.page (omega (arith, range, linked.flags)) fresh.0))
  completes (suc left) (e ∷ es) visited rows parent from linked ordered fresh enough =
      let range = linked.on_page e (inl refl) in
      let inside : e.0.page < length visited = omega (arith, range, linked.flags) in
      let filled = named_fills visited e.1 e.0 (linked.on_named e (inl refl)) in
      let none = no_fault L laws (length pages) (get_or visited e.0.page false) e.0 (page_at pages e.0.page) fresh.0 filled in
      let (next, step) = ordered_step L pages visited rows e.0 (stack_of es) from inside filled ordered in
      let stack = stack-from_page e.0.page (slots_below L e.0 (page_at pages e.0.page)) es in
      let (out, rest) = completes left (from_page e.0.page (slots_below L e.0 (page_at pages e.0.page)) ++ es)
      (set visited e.0.page true) (rows ++ leaf_part L (page_at pages e.0.page)) (with_parent parent e.0.page e.1)
      next
      (linked_step L pages visited e.0 e.1 es parent linked fresh.0 filled) (rw stack step)
      (fresh_step visited e.0 e.1 es parent linked fresh.0 filled fresh)
      (omega (arith, enough, unseen-less visited e.0.page inside fresh.0)) in (
        out,
        fault_or-None e.0.page
            (slot_fault L (length pages) (get_or visited e.0.page false) e.0 (page_at pages e.0.page)) _ none
            ∙ rw stack at rest,
      )

-- page 0 of a tree passes its tests
pub meta_passes : (L : Layout) (pages : ℕ) (words : List ℕ) → IsMeta L pages words → get_or words 2 0 + 2 ≤ pages
    → meta_fault L pages words ≡ None
meta_passes L pages words meta fits = chain_from _ 1 _ (eq-eqb _ _ meta.magic)
    (chain_from _ 2 None (and_from _ _
    (and_from _ _ (and_from _ _ (and_from _ _ (eq-eqb _ _ meta.length) (le-leb _ _ meta.root_low))
    (lt-ltb _ _ meta.root_high)) (le-leb _ _ fits)) (zeros_past-from words 3 meta.rest)) refl)
