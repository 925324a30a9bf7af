-- An image that is a tree meets what the tree keeps, with an empty history.
use Rattle.std.proofs.Common.{◌≡◌, ℕ, suc, ◌-◌, ◌*◌, ◌≤◌, inl, inr, List, [], ◌∷◌, length, ◌==◌, Bool, true, false}
use Rattle.std.proofs.Common.{if◌then◌else◌, refl, arith}
use Rattle.std.proofs.lemmas.List.Sums.{sum_by-cons}
use Rattle.std.proofs.lemmas.Bool.{eqb-true, or_cases}
use Rattle.std.proofs.Math.Nat.{add-mul, mul-add, mul-le-mul_left}
use Rattle.vm_tree_model.specs.Node.{IsNode}
use Rattle.vm_tree_model.specs.Layout.{Layout, IsLayout, size, weight}
use Rattle.vm_tree_model.specs.Tree.{node_at, IsTree}
use Rattle.vm_tree_model.specs.Count.{is_node, node_count}
use Rattle.vm_tree_model.proofs.Load.{load_of, load, load_is}
use Rattle.vm_tree_model.proofs.Laws.{parted_leaves}
use Rattle.vm_owner.specs.Kept.{Start, first_kept}
use Rattle.vm_tree_laws.specs.Keeps.{KeepsTree, full_weight}
use Rattle.vm_tree_laws.proofs.Ties.{kind_of}

module _ (L : Layout) where
  node_tells : (w : List ℕ) → is_node L w ≡ true → IsNode (L.node_of w)
  node_tells w is = elim (or_cases ((L.node_of w).tag == 2) ((L.node_of w).tag == 3) is) [
    | inl two ↦ let tag : (L.node_of w).tag ≡ 2 = eqb-true (L.node_of w).tag 2 two in (omega (arith, tag), omega (arith, tag))
    | inr three ↦ let tag : (L.node_of w).tag ≡ 3 = eqb-true (L.node_of w).tag 3 three in (omega (arith, tag), omega (arith, tag))
  ]

  one_page : (w : List ℕ) (is : Bool) → (is ≡ true → size L (L.node_of w) ≤ L.room)
      → (if is then weight L (L.node_of w) else 0) ≤ full_weight L * (if is then 1 else 0)
  one_page w true fits =
      let more : L.excess_weight * (size L (L.node_of w) - L.base) ≤ L.excess_weight * (L.room - L.base) =
      mul-le-mul_left L.excess_weight (let le = fits refl in omega (arith, le)) in
      let one : full_weight L * 1 ≡ full_weight L = omega arith in
      rw one (omega (arith, more))
  one_page w false fits = omega arith

  -- nodes that fit weigh no more than full ones
  fitting : (pages : List (List ℕ)) → ((p : ℕ) → IsNode (node_at L pages p) → size L (node_at L pages p) ≤ L.room)
      → load L pages ≤ full_weight L * node_count L pages
  fitting [] fits = omega arith
  fitting (w ∷ ws) fits =
      let here = one_page w (is_node L w) (λ is. fits 0 (node_tells w is)) in
      let rest = fitting ws (λ p is. fits (suc p) is) in
      rw (
        sum_by-cons (load_of L) w ws,
        sum_by-cons (λ (w : List ℕ). if is_node L w then 1 else 0) w ws,
        mul-add (full_weight L) (if is_node L w then 1 else 0) (node_count L ws),
      ) (omega (arith, here, rest))

module _ (L : Layout) (laws : IsLayout L) where
  pub start_keeps : (start : Start) → IsTree L start.pages → start.next ≤ length start.pages → KeepsTree L start (first_kept start)
  start_keeps start tree bounded = record {
    same_count = refl;
    tree = tree;
    parted = parted_leaves L laws start.pages tree;
    contents = refl;
    legal = record { replies = tt; counted = tt };
    risen = omega arith;
    bounded = bounded;
    claimed = λ p ge lt. absurd (omega (arith, ge, lt));
    owed = record { apart = tt; range = λ p some. absurd (cc); free = λ p some. absurd (cc) };
    room = (let le = fitting L start.pages fits in omega (arith, le, load_is L start.pages));
    paid = (let le = fitting L start.pages fits in
        let full = add-mul L.node_weight (L.excess_weight * (L.room - L.base)) (node_count L start.pages) in
        let none = mul-add L.node_weight start.next 0 in
        omega (arith, le, full, none, load_is L start.pages));
  }
    where
      fits : (p : ℕ) → IsNode (node_at L start.pages p) → size L (node_at L start.pages p) ≤ L.room
      fits p is = elim (kind_of L laws start.pages tree p is) [
        | inl leaf ↦ laws.clean_fits _ leaf.clean
        | inr inner ↦ laws.clean_fits _ inner.clean
      ]
