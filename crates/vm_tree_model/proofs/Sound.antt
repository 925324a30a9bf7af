-- A walk without a fault has met a tree.
use Rattle.std.proofs.Common.{◌≡◌, ℕ, zero, suc, ◌+◌, ◌-◌, ◌<◌, ◌≤◌, ◌⊎◌, inl, inr, List, [], ◌∷◌, ◌++◌, length}
use Rattle.std.proofs.Common.{get_or, set, drop, Option, Some, None, Ok, Bool, true, false, not, ◌&&◌, eqb, ltb, leb}
use Rattle.std.proofs.Common.{if◌then◌else◌, refl, arith, sym, ap, ◌∙◌, length-drop}
use Rattle.std.proofs.lemmas.Bool.{cases_lt, cases_Bool, and_parts, eqb-true, leb-true, ltb-true}
use Rattle.std.proofs.lemmas.List.{get_or-drop, get_or_past}
use Rattle.vm_tree_model.specs.Layout.{Layout, IsLayout}
use Rattle.vm_map.specs.Map.{Pairs, lookup_at, next_key}
use Rattle.vm_tree_model.specs.Node.{IsNode, Names, IsTreeOf, IsLeafNode, IsInnerNode}
use Rattle.vm_tree_model.specs.Page.{IsFree, IsLeaf, IsInner, IsMeta}
use Rattle.vm_tree_model.specs.Tree.{page_at, node_at, IsTree, leaf_part, map_of}
use Rattle.vm_map.proofs.MapLemmas.{map_ext, lookup-above}
use Rattle.vm_tree_model.proofs.Laws.{parted_leaves, leaf_to, lookup-map_of, Rises-map_of}
use Rattle.vm_tree_model.specs.Walk.{Slot, slots_below, slot_fault, is_free, all_zero, meta_fault}
use Rattle.vm_tree_model.specs.Reason.{Walked, fault_or, lost_or, first_lost, walk, root_slot}
use Rattle.vm_tree_model.proofs.Tests.{fills, chain_tells}
use Rattle.vm_tree_model.proofs.WordTests.{zeros_past, is_free-tells}
use Rattle.vm_tree_model.proofs.Slots.{Entry, stack_of, from_page, stack-from_page, tiles_le}
use Rattle.vm_tree_model.proofs.Linked.{Seen, slot_at, NamedBy, Linked, with_parent, linked_step}
use Rattle.vm_tree_model.proofs.Ordered.{Ordered, ordered_step}

-- The walk is at its end
pub record Finished (L : Layout) (pages : List (List ℕ)) (rows : Pairs) : Type 0 where
  pub visited : List Bool
  pub parent : ℕ → ℕ
  pub from : ℕ
  pub linked : Linked L pages visited [] parent
  pub ordered : Ordered L pages visited rows [] from
  pub none_lost : first_lost L (drop 1 pages) visited 1 ≡ None

pub fault_or-Ok : (page : ℕ) (fault : Option ℕ) (rest : Walked) (out : Pairs) → fault_or page fault rest ≡ Ok out
    → (fault ≡ None) × (rest ≡ Ok out)
fault_or-Ok page None rest out is = (refl, is)
fault_or-Ok page (Some why) rest out is = absurd (cc)

lost_or-Ok : (lost : Option ℕ) (rows out : Pairs) → lost_or lost (Ok rows) ≡ Ok out → (lost ≡ None) × (rows ≡ out)
lost_or-Ok None rows out is = (refl, cc)
lost_or-Ok (Some page) rows out is = absurd (cc)

module _ (L : Layout) (laws : IsLayout L) (pages : List (List ℕ)) where
  -- where the walk ends without a fault, it ends with links and order kept
  pub finished : (left : ℕ) (entries : List Entry) (visited : List Bool) (rows out : Pairs) (parent : ℕ → ℕ) (from : ℕ)
      → Linked L pages visited entries parent → Ordered L pages visited rows (stack_of entries) from
      → walk L pages left (stack_of entries) visited rows ≡ Ok out → Finished L pages out
  unfolding walk
  finished left [] visited rows out parent from linked ordered is =
      let (none, same) = lost_or-Ok (first_lost L (drop 1 pages) visited 1) rows out is in
      record { visited = visited; parent = parent; from = from; linked = linked; ordered = rw same at ordered; none_lost = none }
  finished zero (e ∷ es) visited rows out parent from linked ordered is = absurd (cc)
  finished (suc left) (e ∷ es) visited rows out parent from linked ordered is =
      let range = linked.on_page e (inl refl) in
      let (none, rest) = fault_or-Ok e.0.page
      (slot_fault L (length pages) (get_or visited e.0.page false) e.0 (page_at pages e.0.page)) _ out is in
      let upto = tiles_le L.key_end e.0.high (stack_of es) ordered.tiles.2 in
      let (unseen, filled) = fills L laws (length pages) (get_or visited e.0.page false) e.0 (page_at pages e.0.page) upto none in
      let (next, step) = ordered_step L pages visited rows e.0 (stack_of es) from (omega (arith, range.1, linked.flags)) filled ordered in
      let stack = stack-from_page e.0.page (slots_below L e.0 (page_at pages e.0.page)) es in
      finished left (from_page e.0.page (slots_below L e.0 (page_at pages e.0.page)) ++ es)
      (set visited e.0.page true) (rows ++ leaf_part L (page_at pages e.0.page)) out
      (with_parent parent e.0.page e.1) next
      (linked_step L pages visited e.0 e.1 es parent linked unseen filled) (rw stack step) (rw stack rest)

-- what is not lost was visited or is free
pub not_lost : (L : Layout) (ws : List (List ℕ)) (visited : List Bool) (p : ℕ) → first_lost L ws visited p ≡ None
    → (i : ℕ) → i < length ws → get_or visited (p + i) false ≡ false → IsFree L (page_at ws i)
not_lost L [] visited p none i lt unseen = absurd (omega arith)
not_lost L (w ∷ ws) visited p none zero lt unseen =
    is_free-tells L w (here (get_or visited p false) (is_free L w)
    (let at : p + 0 ≡ p = omega arith in rw at at unseen) none)
  where
    here : (seen free : Bool) → seen ≡ false
        → (if not seen && not free then Some p else (first_lost L) ws visited (p + 1)) ≡ None → free ≡ true
    here true free e is = absurd (cc)
    here false true e is = refl
    here false false e is = absurd (cc)
not_lost L (w ∷ ws) visited p none (suc i) lt unseen =
    not_lost L ws visited (p + 1) (there (not (get_or visited p false) && not (is_free L w)) none) i (omega arith)
    (let at : p + suc i ≡ p + 1 + i = omega arith in rw at at unseen)
  where
    there : (test : Bool) → (if test then Some p else (first_lost L) ws visited (p + 1)) ≡ None → first_lost L ws visited (p + 1) ≡ None
    there true is = absurd (cc)
    there false is = is

-- page 0 passes its tests
pub meta_tells : (L : Layout) (pages : ℕ) (words : List ℕ) → meta_fault L pages words ≡ None → IsMeta L pages words
meta_tells L pages words none =
    let (magic, two) = chain_tells (eqb (get_or words 0 0) L.magic) 1 _ none in
    let (tests, end) = chain_tells (eqb (length words) L.words && leb 1 (get_or words 1 0) && ltb (get_or words 1 0)
    pages && leb (get_or words 2 0 + 2) pages && all_zero (drop 3 words)) 2 None two in
    let (a, rest) = and_parts _ (all_zero (drop 3 words)) tests in
    let (b, height) = and_parts _ (leb (get_or words 2 0 + 2) pages) a in
    let (c, high) = and_parts _ (ltb (get_or words 1 0) pages) b in
    let (long, low) = and_parts (eqb (length words) L.words) (leb 1 (get_or words 1 0)) c in
    record {
      length = eqb-true _ _ long;
      magic = eqb-true _ _ magic;
      root_low = leb-true 1 _ low;
      root_high = ltb-true _ pages high;
      rest = zeros_past words 3 rest;
    }

module _ (L : Layout) (laws : IsLayout L) (pages : List (List ℕ)) (meta : IsMeta L (length pages) (page_at pages 0))
    (rows : Pairs) (end : Finished L pages rows) where
  -- a page that was not visited is free
  free : (p : ℕ) → 1 ≤ p → p < length pages → get_or end.visited p false ≡ false → IsFree L (page_at pages p)
  free zero some lt unseen = absurd (omega arith)
  free (suc p) some lt unseen =
      let at : 1 + p ≡ suc p = omega arith in
      rw (← at, ← get_or-drop 1 pages p [])
      (not_lost L (drop 1 pages) end.visited 1 end.none_lost p (omega (arith, length-drop 1 pages))
      (rw at unseen))

  -- a node was visited
  seen_node : (p : ℕ) → IsNode (node_at L pages p) → Seen end.visited p
  seen_node zero is = absurd (laws.meta_tag _ meta.magic is)
  seen_node (suc p) is = elim (cases_Bool (get_or end.visited (suc p) false)) [
    | inl seen ↦ seen
    | inr unseen ↦ absurd (elim (cases_lt (suc p) (length pages)) [
      | inl lt ↦ omega (arith, is, laws.free_tag _ (free (suc p) (omega arith) lt unseen).zero)
      | inr past ↦
          let empty : page_at pages (suc p) ≡ [] = get_or_past pages (suc p) [] past in
          let tag : (node_at L pages (suc p)).tag ≡ 0 = ap (λ (w : List ℕ). (L.node_of w).tag) empty ∙ laws.free_tag [] (λ i. refl) in
          omega (arith, is, tag)
    ])
  ]

  -- a page that was visited is a leaf or an inner node
  seen_kind : (p : ℕ) → Seen end.visited p → IsLeaf L (page_at pages p) ⊎ IsInner L (page_at pages p)
  seen_kind p seen = elim (end.linked.seen_fills p seen).kind [
    | inl leaf ↦ inl leaf.1
    | inr inner ↦ inr inner.1
  ]

  is_node : (p : ℕ) → Seen end.visited p → IsNode (node_at L pages p)
  is_node p seen = elim (seen_kind p seen) [
    | inl leaf ↦ (omega (arith, leaf.node.tag), omega (arith, leaf.node.tag))
    | inr inner ↦ (omega (arith, inner.node.tag), omega (arith, inner.node.tag))
  ]

  leaf_node : (p : ℕ) → (node_at L pages p).tag ≡ 2 → IsLeafNode (node_at L pages p)
  leaf_node p tag = elim (seen_kind p (seen_node p (omega arith, omega arith))) [
    | inl leaf ↦ leaf.node
    | inr inner ↦ absurd (omega (arith, inner.node.tag))
  ]

  inner_node : (p : ℕ) → (node_at L pages p).tag ≡ 3 → IsInnerNode (node_at L pages p)
  inner_node p tag = elim (seen_kind p (seen_node p (omega arith, omega arith))) [
    | inl leaf ↦ absurd (omega (arith, leaf.node.tag))
    | inr inner ↦ inner.node
  ]

  -- each slot that is named was filled
  filled : (q : ℕ) (s : Slot) → NamedBy L pages end.visited q s → Seen end.visited s.page × (end.parent s.page ≡ q)
      × (slot_at L pages s.page ≡ s)
  filled q s by = elim (end.linked.named q s by) [
    | inl on ↦ absurd on
    | inr done ↦ done
  ]

  root_filled : Seen end.visited (root_slot L (page_at pages 0)).page
      × (end.parent (root_slot L (page_at pages 0)).page ≡ 0)
      × (slot_at L pages (root_slot L (page_at pages 0)).page ≡ root_slot L (page_at pages 0))
  root_filled = filled 0 (root_slot L (page_at pages 0)) (inl (refl, refl))

  child_filled : (q k c : ℕ) → Names (node_at L pages) q k c → Seen end.visited c × (end.parent c ≡ q)
      × (slot_at L pages c ≡ record {
        page = c;
        level = (node_at L pages q).level - 1;
        low = k;
        high = next_key (node_at L pages q).pairs (node_at L pages q).high k;
      })
  child_filled q k c names =
      let tag : (node_at L pages q).tag ≡ 3 = names.0 in
      let above = (inner_node q tag).level in
      filled q (record {
        page = c;
        level = (node_at L pages q).level - 1;
        low = k;
        high = next_key (node_at L pages q).pairs (node_at L pages q).high k;
      })
      (inr (seen_node q (omega arith, omega arith), record { names = names; level = omega (arith, above); high = refl }))

  tree_of : IsTreeOf L.key_end (node_at L pages) (get_or (page_at pages 0) 1 0) (get_or (page_at pages 0) 2 0)
  tree_of = record {
    leaf = leaf_node;
    inner = inner_node;
    root_is = is_node _ root_filled.0;
    root_level = ap (λ (s : Slot). s.level) root_filled.2;
    root_low = ap (λ (s : Slot). s.low) root_filled.2;
    root_high = ap (λ (s : Slot). s.high) root_filled.2;
    child_is = λ q k c names. is_node c (child_filled q k c names).0;
    child_level = λ q k c names. omega (arith, ap (λ (s : Slot). s.level) (child_filled q k c names).2, (inner_node q names.0).level);
    child_low = λ q k c names. ap (λ (s : Slot). s.low) (child_filled q k c names).2;
    child_high = λ q k c names. ap (λ (s : Slot). s.high) (child_filled q k c names).2;
    once = λ q q' k k' c names names'. sym (child_filled q k c names).1 ∙ (child_filled q' k' c names').1;
    unnamed = λ q k names.
        let tag : (node_at L pages q).tag ≡ 3 = names.0 in
        let child = child_filled q k _ names in
        let range = end.linked.seen_page q (seen_node q (omega arith, omega arith)) in
        omega (arith, child.1, root_filled.1, range);
    named = λ c is other. elim (end.linked.seen_named c (seen_node c is)) [
      | inl by_root ↦ absurd (other (ap (λ (s : Slot). s.page) by_root.1))
      | inr by ↦ (end.parent c, (node_at L pages c).low, by.1.names)
    ];
  }

  pub is_tree : IsTree L pages
  is_tree = record {
    meta = meta;
    kind = λ p some lt. elim (cases_Bool (get_or end.visited p false)) [
      | inl seen ↦ elim (seen_kind p seen) [
        | inl leaf ↦ inr (inl leaf)
        | inr inner ↦ inr (inr inner)
      ]
      | inr unseen ↦ inl (free p some lt unseen)
    ];
    tree = tree_of;
  }

  -- the rows are the pairs of all leaves, by rising key
  pub rows_are : rows ≡ map_of L pages
  rows_are = map_ext rows (map_of L pages) 0 L.key_end (rw (← whole) end.ordered.rows_rise) (Rises-map_of L laws pages is_tree) same
    where
      whole : end.from ≡ L.key_end
      whole = end.ordered.tiles

      same : (key : ℕ) → lookup_at rows key ≡ lookup_at (map_of L pages) key
      same key = elim (cases_lt key L.key_end) [
        | inl lt ↦
            let (p, leaf, covers) = (parted_leaves L laws pages is_tree).some key lt in
            let (node, level) = leaf_to L laws pages is_tree p leaf in
            end.ordered.leaf_rows p key (seen_node p node) leaf.2 covers ∙ sym (lookup-map_of L laws pages is_tree p key leaf covers)
        | inr past ↦ lookup-above rows 0 end.from key end.ordered.rows_rise (omega (arith, whole))
            ∙ sym (lookup-above (map_of L pages) 0 L.key_end key (Rises-map_of L laws pages is_tree) past)
      ]
