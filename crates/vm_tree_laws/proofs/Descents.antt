-- Each step of a coupled descent reaches the node of its level that covers the key. The loop that descends keeps
-- `IsReached` and `IsSound` of the page last validated, and its level falls.
use Rattle.std.proofs.Common.{◌≡◌, ◌⊎◌, inl, inr, ℕ, zero, suc, ◌+◌, ◌<◌, ◌≤◌, List, [], ◌∷◌, length, slice_index}
use Rattle.std.proofs.Common.{Option, Some, None, refl, sym, arith, ap, ◌∙◌, option_map}
use Rattle.std.proofs.lemmas.Bool.Decides.{nat_tests}
use Rattle.vm_tree_model.specs.Layout.{Layout}
use Rattle.vm_map.specs.Map.{floor_pair, lookup_at, next_key}
use Rattle.vm_tree_model.specs.Node.{Covers}
use Rattle.vm_tree_model.specs.Page.{pairs_of, node_of, IsLeaf, IsInner}
use Rattle.vm_map.proofs.MapLemmas.{floor_is, floor_some}
use Rattle.vm_tree_model.specs.Edits.{child_of}
use Rattle.vm_tree_laws.specs.Descent.{IsReached, IsReachedAs, IsWay, last_words}
use Rattle.vm_tree_laws.specs.Tied.{IsTied, IsSound}

-- a node whose fences hold the key covers it
pub reached_as : (L : Layout) (pages p : ℕ) (words : List ℕ) (level low high key : ℕ)
    → IsReachedAs L pages p words level low high → low ≤ key → key < high → IsReached L pages p words level key
reached_as L pages p words level low high key r from below = record {
  from_one = r.from_one;
  in_range = r.in_range;
  kind = r.node.kind;
  level_is = r.node.level_is;
  covers = (omega (arith, r.node.low_is, from), omega (arith, r.node.high_is, below));
}

-- the root that a validated page 0 names, validated at the version seen before
pub root_as : (L : Layout) (pages p : ℕ) (meta words : List ℕ) → IsTied L pages 0 meta p words
    → slice_index meta 1 ≡ p → IsReachedAs L pages p words (slice_index meta 2) 0 L.key_end
root_as L pages p meta words tied root_is =
    let m = tied.sound.meta refl in record {
      from_one = omega (arith, m.root_low, root_is);
      in_range = omega (arith, m.root_high, root_is);
      node = tied.root refl root_is;
    }

pub reached_root : (L : Layout) (pages p key : ℕ) (meta words : List ℕ) → IsTied L pages 0 meta p words
    → slice_index meta 1 ≡ p → key < L.key_end → IsReached L pages p words (slice_index meta 2) key
reached_root L pages p key meta words tied root_is fits = reached_as L pages p words (slice_index meta 2) 0 L.key_end
    key (root_as L pages p meta words tied root_is) (omega arith) fits

module _ (L : Layout) (pages r : ℕ) (words : List ℕ) (level key : ℕ) (reached : IsReached L pages r words level key) where
  pub inner_by_tag : (node_of L words).tag ≡ 3 → (1 ≤ level) × IsInner L words
  inner_by_tag tag = elim reached.kind [
    | inl leaf ↦ absurd (omega (arith, leaf.node.tag, tag))
    | inr inner ↦ (omega (arith, inner.node.level, reached.level_is), inner)
  ]

  pub leaf_by_tag : (node_of L words).tag ≡ 2 → (level ≡ 0) × IsLeaf L words
  leaf_by_tag tag = elim reached.kind [
    | inl leaf ↦ (omega (arith, leaf.node.level, reached.level_is), leaf)
    | inr inner ↦ absurd (omega (arith, inner.node.tag, tag))
  ]

  -- what is no leaf is an inner node, above level 0
  pub kind_by_level : ((level ≡ 0) × IsLeaf L words) ⊎ ((1 ≤ level) × IsInner L words)
  kind_by_level = elim reached.kind [
    | inl leaf ↦ inl (omega (arith, leaf.node.level, reached.level_is), leaf)
    | inr inner ↦ inr (omega (arith, inner.node.level, reached.level_is), inner)
  ]

  -- an inner node has a child for the key, on a page of the image
  pub child_there : IsSound L pages r words → IsInner L words → (p : ℕ) × (child_of L words key ≡ Some p) × (1 ≤ p) × (p < pages)
  child_there sound inner =
      let (x, is) = floor_some (pairs_of L words) (node_of L words).low key inner.node.starts reached.covers.0 in
      let f = floor_is (pairs_of L words) (node_of L words).low (node_of L words).high key x inner.node.rises reached.covers.1 is in
      let range = sound.children reached.from_one x.0 x.1 inner.node.tag f.found in
      (x.1, ap (option_map (λ (y : ℕ × ℕ). y.1)) is, range.0, range.1)

  -- the child that validated words name under a key, validated at the version seen before: its fences are that key and the next one
  pub child_as : (p k : ℕ) (child : List ℕ) → IsInner L words → lookup_at (pairs_of L words) k ≡ Some p
      → IsTied L pages r words p child → (below : ℕ) → below + 1 ≡ level
      → IsReachedAs L pages p child below k (next_key (pairs_of L words) (node_of L words).high k)
  child_as p k child inner found tied below up =
      let range = tied.sound.children reached.from_one k p inner.node.tag found in
      record {
        from_one = range.0;
        in_range = range.1;
        node = tied.child reached.from_one inner.node.tag k below found (omega (arith, reached.level_is, up));
      }

  -- that of the greatest key up to this one covers it
  pub reached_child : (p : ℕ) (child : List ℕ) → IsInner L words → child_of L words key ≡ Some p
      → IsTied L pages r words p child → (below : ℕ) → below + 1 ≡ level → IsReached L pages p child below key
  reached_child p child inner names tied below up = go (floor_pair (pairs_of L words) key) refl
    where
      go : (o : Option (ℕ × ℕ)) → floor_pair (pairs_of L words) key ≡ o → IsReached L pages p child below key
      go None none = let no : child_of L words key ≡ None = ap (option_map (λ (y : ℕ × ℕ). y.1)) none in absurd (cc)
      go (Some x) is =
          let some : child_of L words key ≡ Some x.1 = ap (option_map (λ (y : ℕ × ℕ). y.1)) is in
          let page : x.1 ≡ p = grind (arith, nat_tests, some, names) in
          let f = floor_is (pairs_of L words) (node_of L words).low (node_of L words).high key x inner.node.rises reached.covers.1 is in
          let found = f.found ∙ ap (λ (c : ℕ). Some c) page in
          reached_as L pages p child below x.0 (next_key (pairs_of L words) (node_of L words).high x.0) key
          (child_as p x.0 child inner found tied below up) f.up_to f.next

-- a coupled descent ends, after as many steps as its first page's level, at a leaf that covers the key
pub way_ends : (L : Layout) (pages key : ℕ) (steps : List (ℕ × List ℕ)) (r : ℕ) (words : List ℕ) (level : ℕ)
    → IsReached L pages r words level key → IsWay L pages key steps r words
    → (length steps ≡ level) × IsLeaf L (last_words steps words) × Covers (node_of L (last_words steps words)) key
way_ends L pages key [] r words level reached tag =
    let leaf = leaf_by_tag L pages r words level key reached tag in (sym leaf.0, leaf.1, reached.covers)
way_ends L pages key (step ∷ steps) r words zero reached way =
    absurd (omega (arith, (inner_by_tag L pages r words zero key reached way.0).0))
way_ends L pages key (step ∷ steps) r words (suc level) reached way =
    let inner = (inner_by_tag L pages r words (suc level) key reached way.0).1 in
    let below = reached_child L pages r words (suc level) key reached step.0 step.1 inner way.1 way.2 level (omega arith) in
    let rest = way_ends L pages key steps step.0 step.1 level below way.3 in
    (omega (arith, rest.0), rest.1, rest.2)
