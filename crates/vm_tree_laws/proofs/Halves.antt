-- The halves of a full node.
use Rattle.std.proofs.Common.{◌≡◌, ◌≢◌, ℕ, ◌+◌, ◌*◌, ◌<◌, ◌≤◌, List, [], ◌∷◌, ◌++◌, length, take, drop, Bool, true}
use Rattle.std.proofs.Common.{false, if◌then◌else◌, refl, sym, ap, ◌∙◌, subst, arith, length-take}
use Rattle.std.proofs.lemmas.List.{take-append-drop, drop_more}
use Rattle.std.proofs.lemmas.Bool.Decides.{nat_tests}
use Rattle.vm_map.specs.Map.{Pairs, Rises, StartsAt}
use Rattle.vm_tree_model.specs.Layout.{Layout, IsLayout, IsClean, IsFullNode, PaysForSplit, cut, weight}
use Rattle.vm_tree_model.specs.Node.{Node, IsNode}
use Rattle.vm_tree_model.specs.Page.{pairs_of, node_of}
use Rattle.vm_tree_model.specs.Count.{is_node}
use Rattle.vm_tree_model.proofs.Load.{load_of}
use Rattle.vm_map.proofs.MapLemmas.{Rises-append}
use Rattle.vm_tree_model.specs.Edits.{IsSplit}

-- no node by its tag
abbrev pub IsOther : Node → Type 0
IsOther n = (n.tag ≢ 2) × (n.tag ≢ 3)

node_test : (L : Layout) (w : List ℕ) → IsNode (node_of L w) → is_node L w ≡ true
node_test L w is = grind (arith, nat_tests, is.0, is.1)

-- 1 for a node
abbrev pub counted : Layout → List ℕ → ℕ
counted L w = if (is_node L) w then 1 else 0

-- what is chosen by a test
chosen : (b : Bool) (x : ℕ) → b ≡ true → (if b then x else 0) ≡ x
chosen true x is = refl
chosen false x is = absurd (cc)

left_out : (b : Bool) (x : ℕ) → b ≡ false → (if b then x else 0) ≡ 0
left_out true x is = absurd (cc)
left_out false x is = refl

other_test : (L : Layout) (w : List ℕ) → IsOther (node_of L w) → is_node L w ≡ false
other_test L w other = let not_two = other.0 in let not_three = other.1 in grind (arith, nat_tests, not_two, not_three)

pub counted_node : (L : Layout) (w : List ℕ) → IsNode (node_of L w) → counted L w ≡ 1
counted_node L w is = chosen (is_node L w) 1 (node_test L w is)

pub counted_other : (L : Layout) (w : List ℕ) → IsOther (node_of L w) → counted L w ≡ 0
counted_other L w other = left_out (is_node L w) 1 (other_test L w other)

pub load_other : (L : Layout) (w : List ℕ) → IsOther (node_of L w) → load_of L w ≡ 0
load_other L w other = left_out (is_node L w) (weight L (node_of L w)) (other_test L w other)

pub load_at : (L : Layout) (w : List ℕ) → IsNode (node_of L w) → load_of L w ≡ weight L (node_of L w)
load_at L w is = chosen (is_node L w) (weight L (node_of L w)) (node_test L w is)

module _ (L : Layout) (laws : IsLayout L) (old new right : List ℕ) (separator : ℕ) (clean : IsClean L old)
    (full : IsFullNode L (node_of L old)) (split : IsSplit L old new right separator) where
  pays : PaysForSplit L (node_of L old) separator
  pays = laws.splits (node_of L old) separator (laws.clean_fits old clean) full

  pub halves : pairs_of L old ≡ take (cut L (pairs_of L old)) (pairs_of L old) ++ drop (cut L (pairs_of L old)) (pairs_of L old)
  halves = sym (take-append-drop (cut L (pairs_of L old)) (pairs_of L old))

  pub left_some : 1 ≤ length (take (cut L (pairs_of L old)) (pairs_of L old))
  left_some = omega (arith, length-take (cut L (pairs_of L old)) (pairs_of L old), pays.left_some, pays.right_some)

  pub starts : StartsAt separator (drop (cut L (pairs_of L old)) (pairs_of L old))
  starts = subst (λ (l : Pairs). StartsAt separator l)
      (sym (drop_more (pairs_of L old) (cut L (pairs_of L old)) (0, 0) pays.right_some)) split.separates

  -- some key lies below the separator
  pub separator_above : (low high : ℕ) → Rises low high (pairs_of L old) → 0 < separator
  separator_above low high rises = first (take (cut L (pairs_of L old)) (pairs_of L old))
      (Rises-append _ (drop (cut L (pairs_of L old)) (pairs_of L old)) low separator high (rw halves at rises)
      starts).0 left_some
    where
      first : (a : Pairs) → Rises low separator a → 1 ≤ length a → 0 < separator
      first [] r some = absurd (omega arith)
      first (e ∷ es) r some = omega (arith, r.1)

  left_tag : (node_of L new).tag ≡ (node_of L old).tag
  left_tag = ap (λ (n : Node). n.tag) split.left_is

  right_tag : (node_of L right).tag ≡ (node_of L old).tag
  right_tag = ap (λ (n : Node). n.tag) split.right_is

  pub left_node : IsNode (node_of L old) → IsNode (node_of L new)
  left_node is = (omega (arith, is.0, left_tag), omega (arith, is.1, left_tag))

  pub right_node : IsNode (node_of L old) → IsNode (node_of L right)
  right_node is = (omega (arith, is.0, right_tag), omega (arith, is.1, right_tag))

  -- the node's weight pays for both halves and for the parent's pair, or for both halves and a new root
  pub half_loads : IsNode (node_of L old)
      → (load_of L new + load_of L right + L.excess_weight * L.growth ≤ load_of L old)
      × (load_of L new + load_of L right + L.node_weight ≤ load_of L old)
  half_loads is =
      let left = load_at L new (left_node is) ∙ ap (weight L) split.left_is in
      let other = load_at L right (right_node is) ∙ ap (weight L) split.right_is in
      let whole = load_at L old is in
      (omega (arith, left, other, whole, pays.below), omega (arith, left, other, whole, pays.above))
