-- The root has two leaves and nothing else: they become one leaf, which is the root, and the old root and the right
-- leaf are no nodes afterwards.
use Rattle.std.proofs.Common.{◌≡◌, ◌≢◌, ◌⊎◌, ℕ, ◌+◌, ◌≤◌, inl, inr, [], ◌∷◌, ◌++◌, Some, ap, ◌∙◌, arith}
use Rattle.std.proofs.lemmas.Bool.{cases_eq}
use Rattle.std.proofs.lemmas.Bool.Decides.{nat_tests}
use Rattle.vm_map.specs.Map.{lookup_at, Rises, next_key}
use Rattle.vm_tree_model.specs.Node.{Node, IsLeafNode, IsInnerNode, IsNode, Names, IsTreeOf}
use Rattle.vm_tree_model.proofs.MergeLaw.{joined, p_low, r_high}

-- root q names leaf p at k and leaf r at s, and no more
pub record IsCollapseStep (old new : ℕ → Node) (q k p s r : ℕ) : Type 0 where
  pub inner : (old q).tag ≡ 3
  pub pairs : (old q).pairs ≡ (k, p) ∷ (s, r) ∷ []
  pub left_leaf : (old p).tag ≡ 2
  pub right_leaf : (old r).tag ≡ 2
  pub left : new p ≡ record (old p) { high = (old r).high; pairs = (old p).pairs ++ (old r).pairs }
  pub right : (new r).tag ≡ 0
  pub gone : (new q).tag ≡ 0
  pub others : (x : ℕ) → IsNode (old x) ⊎ IsNode (new x) → x ≢ q → x ≢ p → x ≢ r → new x ≡ old x

module _ {end : ℕ} (old new : ℕ → Node) (height q k p s r : ℕ) (tree : IsTreeOf end old q height)
    (step : IsCollapseStep old new q k p s r) where
  two_rise : Rises (old q).low (old q).high ((k, p) ∷ (s, r) ∷ [])
  two_rise = rw step.pairs at (tree.inner q step.inner).rises

  lt : k + 1 ≤ s
  lt = two_rise.2.0

  pub named : Names old q k p
  named = (step.inner, rw step.pairs (grind (arith, nat_tests)))

  pub named_right : Names old q s r
  named_right = (step.inner, rw step.pairs (grind (arith, nat_tests, lt)))

  pub next : next_key (old q).pairs (old q).high k ≡ s
  next = rw step.pairs (grind (arith, nat_tests, lt))

  last : next_key (old q).pairs (old q).high s ≡ (old q).high
  last = rw step.pairs (grind (arith, nat_tests, lt))

  first : k ≡ (old q).low
  first = rw step.pairs at (tree.inner q step.inner).starts

  -- the root names these two alone
  by_root : (x c : ℕ) → Names old q x c → c ≢ p → c ≢ r → ⊥
  by_root x c n np nr = let found : lookup_at ((k, p) ∷ (s, r) ∷ []) x ≡ Some c = rw step.pairs at n.1 in
      grind (arith, nat_tests, found, np, nr)

  -- a node that names another is as it was, and not the old root
  from : (u x c : ℕ) → Names new u x c → (u ≢ q) × (new u ≡ old u)
  from u x c n =
      let nq : u ≢ q = λ e. omega (arith, step.gone, n.0, ap (λ y. (new y).tag) e) in
      let nr : u ≢ r = λ e. omega (arith, step.right, n.0, ap (λ y. (new y).tag) e) in
      let left : (new p).tag ≡ 2 = ap (λ (y : Node). y.tag) step.left ∙ step.left_leaf in
      let np : u ≢ p = λ e. omega (arith, left, n.0, ap (λ y. (new y).tag) e) in
      (nq, step.others u (inr (omega (arith, n.0), omega (arith, n.0))) nq np nr)

  back : (u x c : ℕ) → Names new u x c → Names old u x c
  back u x c n = rw (from u x c n).1 at n

  -- so is the one that is named
  to : (u x c : ℕ) → Names new u x c → new c ≡ old c
  to u x c n =
      let f = from u x c n in
      let b = back u x c n in
      step.others c (inl (tree.child_is u x c b))
      (λ e. tree.unnamed u x (rw e at b))
      (λ e. f.0 (tree.once u q x k p (rw e at b) named))
      (λ e. f.0 (tree.once u q x s r (rw e at b) named_right))

  names_to : (u x c : ℕ) → Names old u x c → u ≢ q → Names new u x c
  names_to u x c n nq =
      let same : new u ≡ old u = step.others u (inl (omega (arith, n.0), omega (arith, n.0))) nq
      (λ e. omega (arith, step.left_leaf, n.0, ap (λ y. (old y).tag) e))
      (λ e. omega (arith, step.right_leaf, n.0, ap (λ y. (old y).tag) e)) in
      rw same n

  pub collapse_tree : IsTreeOf end new p 0
  collapse_tree = record {
    leaf = leaf;
    inner = inner;
    root_is = rw step.left (omega (arith, step.left_leaf), omega (arith, step.left_leaf));
    root_level = rw step.left (tree.leaf p step.left_leaf).level;
    root_low = rw step.left
        (p_low old new q height q k p s r tree named named_right next step.left_leaf step.right_leaf ∙ first
        ∙ tree.root_low);
    root_high = rw step.left
        (r_high old new q height q k p s r tree named named_right next step.left_leaf step.right_leaf ∙ last
        ∙ tree.root_high);
    child_is = λ u x c n. rw (to u x c n) (tree.child_is u x c (back u x c n));
    child_level = λ u x c n. rw (to u x c n) (rw (from u x c n).1 (tree.child_level u x c (back u x c n)));
    child_low = λ u x c n. rw (to u x c n) (tree.child_low u x c (back u x c n));
    child_high = λ u x c n. rw (to u x c n) (rw (from u x c n).1 (tree.child_high u x c (back u x c n)));
    once = λ u u' x x' c n n'. tree.once u u' x x' c (back u x c n) (back u' x' c n');
    unnamed = λ u x n. (from u x p n).0 (tree.once u q x k p (back u x p n) named);
    named = λ c is off.
        let nq : c ≢ q = λ e. omega (arith, step.gone, is, ap (λ y. (new y).tag) e) in
        let nr : c ≢ r = λ e. omega (arith, step.right, is, ap (λ y. (new y).tag) e) in
        let same : new c ≡ old c = step.others c (inr is) nq off nr in
        let (u, x, n) = tree.named c (rw same at is) nq in
        (u, x, names_to u x c n (λ e. by_root x c (rw e at n) off nr));
  }
    where
      leaf : (x : ℕ) → (new x).tag ≡ 2 → IsLeafNode (new x)
      leaf x tag = elim (cases_eq x p) [
        | inl e ↦ rw e (rw step.left (joined old new q height q k p s r tree named named_right next step.left_leaf step.right_leaf))
        | inr np ↦
            let nq : x ≢ q = λ e. omega (arith, step.gone, tag, ap (λ y. (new y).tag) e) in
            let nr : x ≢ r = λ e. omega (arith, step.right, tag, ap (λ y. (new y).tag) e) in
            let same : new x ≡ old x = step.others x (inr (omega (arith, tag), omega (arith, tag))) nq np nr in
            rw same (tree.leaf x (rw same at tag))
      ]

      inner : (x : ℕ) → (new x).tag ≡ 3 → IsInnerNode (new x)
      inner x tag =
          let left : (new p).tag ≡ 2 = ap (λ (y : Node). y.tag) step.left ∙ step.left_leaf in
          let np : x ≢ p = λ e. omega (arith, left, tag, ap (λ y. (new y).tag) e) in
          let nq : x ≢ q = λ e. omega (arith, step.gone, tag, ap (λ y. (new y).tag) e) in
          let nr : x ≢ r = λ e. omega (arith, step.right, tag, ap (λ y. (new y).tag) e) in
          let same : new x ≡ old x = step.others x (inr (omega (arith, tag), omega (arith, tag))) nq np nr in
          rw same (tree.inner x (rw same at tag))
