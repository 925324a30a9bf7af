-- The rows that a walk has met: they rise, and they are the pairs of the leaves that it visited.
use Rattle.std.proofs.Common.{◌≡◌, ℕ, ◌+◌, ◌<◌, ◌≤◌, ◌≢◌, inl, inr, List, [], ◌∷◌, ◌++◌, length, set, None, Bool}
use Rattle.std.proofs.Common.{true, false, eqb, arith, ◌∙◌}
use Rattle.std.proofs.lemmas.Bool.{eq-eqb, ne_eqb}
use Rattle.std.proofs.lemmas.Bool.Decides.{nat_tests}
use Rattle.std.proofs.lemmas.List.{append-nil}
use Rattle.vm_tree_model.specs.Layout.{Layout}
use Rattle.vm_map.specs.Map.{Pairs, lookup_at, Rises}
use Rattle.vm_tree_model.specs.Node.{Covers}
use Rattle.vm_tree_model.specs.Page.{pairs_of}
use Rattle.vm_tree_model.specs.Tree.{page_at, node_at, leaf_part}
use Rattle.vm_map.proofs.MapLemmas.{lookup-append, lookup-below, lookup-above, Rises-from}
use Rattle.vm_tree_model.proofs.MapOf.{part_leaf}
use Rattle.vm_tree_model.specs.Walk.{Slot, slots_below}
use Rattle.vm_tree_model.proofs.Tests.{Fills}
use Rattle.vm_tree_model.proofs.Slots.{Tiles, tiles_children}
use Rattle.vm_tree_model.proofs.Linked.{Seen, seen_either}

-- The slots left stand side by side from a key on; the rows rise up to it and have what the visited leaves have
pub record Ordered (L : Layout) (pages : List (List ℕ)) (visited : List Bool) (rows : Pairs) (slots : List Slot) (from : ℕ) : Type 0 where
  pub tiles : Tiles L.key_end from slots
  pub rows_rise : Rises 0 from rows
  pub leaf_high : (p : ℕ) → Seen visited p → (node_at L pages p).tag ≡ 2 → (node_at L pages p).high ≤ from
  pub leaf_rows : (p key : ℕ) → Seen visited p → (node_at L pages p).tag ≡ 2 → Covers (node_at L pages p) key
      → lookup_at rows key ≡ lookup_at (node_at L pages p).pairs key

Rises-join : (a b : Pairs) (low mid high : ℕ) → Rises low mid a → low ≤ mid → Rises mid high b → mid ≤ high → Rises low high (a ++ b)
Rises-join [] b low mid high ra le rb upto = Rises-from b mid low high rb le
Rises-join (e ∷ es) b low mid high ra le rb upto =
    (ra.0, omega (arith, ra.1), Rises-join es b (e.0 + 1) mid high ra.2 (omega (arith, ra.1)) rb upto)

found_left : (a b : Pairs) (key : ℕ) → lookup_at b key ≡ None → lookup_at (a ++ b) key ≡ lookup_at a key
found_left a b key none = lookup-append a b key ∙ grind (arith, none)

found_right : (a b : Pairs) (key : ℕ) → lookup_at a key ≡ None → lookup_at (a ++ b) key ≡ lookup_at b key
found_right a b key none = lookup-append a b key ∙ grind (arith, none)

module _ (L : Layout) (pages : List (List ℕ)) (visited : List Bool) (rows : Pairs) (s : Slot) (slots : List Slot)
    (from : ℕ) (inside : s.page < length visited)
    (filled : Fills L (length pages) s (page_at pages s.page)) (ordered : Ordered L pages visited rows (s ∷ slots) from) where
  low_is : s.low ≡ from
  low_is = ordered.tiles.0

  wide : s.low < s.high
  wide = ordered.tiles.1

  -- a leaf's pairs come after the rows
  leaf_step : (s.level ≡ 0) → (node_at L pages s.page).tag ≡ 2 → Rises s.low s.high (pairs_of L (page_at pages s.page))
      → Ordered L pages (set visited s.page true) (rows ++ leaf_part L (page_at pages s.page))
      (slots_below L s (page_at pages s.page) ++ slots) s.high
  leaf_step bottom tag rises = rw (part_leaf L (page_at pages s.page) tag, eq-eqb s.level 0 bottom) (record {
    tiles = ordered.tiles.2;
    rows_rise = Rises-join rows (pairs_of L (page_at pages s.page)) 0 s.low s.high (rw low_is ordered.rows_rise)
        (omega arith) rises (omega (arith, wide));
    leaf_high = λ p seen is. elim (seen_either visited s.page inside p seen) [
      | inl same ↦ rw same (omega (arith, filled.high))
      | inr old ↦ omega (arith, ordered.leaf_high p old.1 is, low_is, wide)
    ];
    leaf_rows = λ p key seen is covers. elim (seen_either visited s.page inside p seen) [
      | inl same ↦
          let from_low : s.low ≤ key = (let c = (rw same at covers).0 in omega (arith, c, filled.low)) in
          rw same (found_right rows _ key (lookup-above rows 0 from key ordered.rows_rise (omega (arith, from_low, low_is))))
      | inr old ↦
          let below_low : key < s.low = omega (arith, ordered.leaf_high p old.1 is, covers.1, low_is) in
          found_left rows _ key (lookup-below _ s.low s.high key rises below_low) ∙ ordered.leaf_rows p key old.1 is covers
    ];
  })

  -- an inner node's children stand in its place
  inner_step : (s.level ≢ 0) → (node_at L pages s.page).tag ≡ 3 → Tiles L.key_end s.low (slots_below L s (page_at pages s.page) ++ slots)
      → Ordered L pages (set visited s.page true) (rows ++ leaf_part L (page_at pages s.page))
      (slots_below L s (page_at pages s.page) ++ slots) s.low
  inner_step above tag tiles =
      let none : leaf_part L (page_at pages s.page) ≡ [] = grind (arith, nat_tests, tag) in
      rw (none, append-nil rows) (record {
        tiles = tiles;
        rows_rise = rw low_is ordered.rows_rise;
        leaf_high = λ p seen is. elim (seen_either visited s.page inside p seen) [
          | inl same ↦ absurd (let is' = rw same at is in omega (arith, tag, is'))
          | inr old ↦ omega (arith, ordered.leaf_high p old.1 is, low_is)
        ];
        leaf_rows = λ p key seen is covers. elim (seen_either visited s.page inside p seen) [
          | inl same ↦ absurd (let is' = rw same at is in omega (arith, tag, is'))
          | inr old ↦ ordered.leaf_rows p key old.1 is covers
        ];
      })

  -- a visit of the page keeps the order
  pub ordered_step : (next : ℕ) × Ordered L pages (set visited s.page true)
      (rows ++ leaf_part L (page_at pages s.page)) (slots_below L s (page_at pages s.page) ++ slots) next
  ordered_step = elim filled.kind [
    | inl leaf ↦ (s.high, leaf_step leaf.0 leaf.1.node.tag (rw (← filled.low, ← filled.high) leaf.1.node.rises))
    | inr inner ↦
        let above : s.level ≢ 0 = omega (arith, inner.0) in
        let no_zero : eqb s.level 0 ≡ false = ne_eqb s.level 0 above in
        let node = inner.1.node in (
          s.low,
          inner_step above node.tag
              (rw no_zero (tiles_children L.key_end (pairs_of L (page_at pages s.page)) _ s.low s.high slots
              (rw (← filled.low, ← filled.high) node.rises) (rw (← filled.low) node.starts) ordered.tiles.2)),
        )
  ]
