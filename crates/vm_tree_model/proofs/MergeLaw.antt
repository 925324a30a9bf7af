-- Two leaves beside each other under one parent become one: the left one takes over the pairs and the high fence of
-- the right one, whose page is no node
-- afterwards, and the parent names that page no more.
use Rattle.std.proofs.Common.{[], ◌∷◌, ◌≡◌, ℕ, ◌<◌, ◌≢◌, inl, inr, ◌++◌, Some, refl, sym, ap, ◌∙◌, arith}
use Rattle.std.proofs.lemmas.Bool.{cases_eq, cases_lt}
use Rattle.std.proofs.lemmas.Bool.Decides.{nat_tests}
use Rattle.vm_map.specs.Map.{Pairs, lookup_at, del_pair, Rises, next_key}
use Rattle.vm_tree_model.specs.Node.{Node, IsLeafNode, IsInnerNode, IsNode, Names, IsTreeOf}
use Rattle.vm_map.proofs.MapLemmas.{found_low, found_high, lookup-del_same, lookup-del_other, Rises-del, Rises-join, next-le_found}
use Rattle.vm_tree_model.proofs.DelLemmas.{next-del_same, next-del_other, StartsAt-del}

-- the next key of a map above a key is above it
next-above : (m : Pairs) (high k : ℕ) → k < high → k < next_key m high k
next-above [] high k lt = lt
next-above (e ∷ es) high k lt = grind (arith, nat_tests, next-above es high k lt)

-- parent q names leaf p at k, and leaf r at the next key s
pub record IsMergeStep (old new : ℕ → Node) (q k p s r : ℕ) : Type 0 where
  pub named : Names old q k p
  pub named_right : Names old q s r
  pub next : next_key (old q).pairs (old q).high k ≡ s
  pub left_leaf : (old p).tag ≡ 2
  pub right_leaf : (old r).tag ≡ 2
  pub parent : new q ≡ record (old q) { pairs = del_pair (old q).pairs s }
  pub left : new p ≡ record (old p) { high = (old r).high; pairs = (old p).pairs ++ (old r).pairs }
  pub right : (new r).tag ≡ 0
  pub others : (x : ℕ) → x ≢ q → x ≢ p → x ≢ r → new x ≡ old x

-- what stands about two neighbours, whatever becomes of their parent
module _ {end : ℕ} (old new : ℕ → Node) (root height q k p s r : ℕ) (tree : IsTreeOf end old root height)
    (named : Names old q k p) (named_right : Names old q s r)
    (next : next_key (old q).pairs (old q).high k ≡ s) (left_leaf : (old p).tag ≡ 2) (right_leaf : (old r).tag ≡ 2) where
  pub q_rises : Rises (old q).low (old q).high (old q).pairs
  q_rises = (tree.inner q named.0).rises

  pub k_lt_s : k < s
  k_lt_s = omega (arith, next, next-above (old q).pairs (old q).high k (found_high _ _ _ k p q_rises named.1))

  pub s_lt_high : s < (old q).high
  s_lt_high = found_high _ _ _ s r q_rises named_right.1

  pub p_low : (old p).low ≡ k
  p_low = tree.child_low q k p named

  pub r_low : (old r).low ≡ s
  r_low = tree.child_low q s r named_right

  pub p_high : (old p).high ≡ s
  p_high = tree.child_high q k p named ∙ next

  pub r_high : (old r).high ≡ next_key (old q).pairs (old q).high s
  r_high = tree.child_high q s r named_right

  pub s_lt_r_high : s < (old r).high
  s_lt_r_high = omega (arith, r_high, next-above (old q).pairs (old q).high s s_lt_high)

  pub q_ne_r : q ≢ r
  q_ne_r same = omega (arith, named.0, right_leaf, ap (λ x. (old x).tag) same)

  pub p_ne_r : p ≢ r
  p_ne_r same = omega (arith, k_lt_s, p_low, r_low, ap (λ x. (old x).low) same)

  pub p_rises : Rises (old p).low s (old p).pairs
  p_rises = rw p_high at (tree.leaf p left_leaf).rises

  pub r_rises : Rises s (old r).high (old r).pairs
  r_rises = rw r_low at (tree.leaf r right_leaf).rises

  pub joined_rises : Rises (old p).low (old r).high ((old p).pairs ++ (old r).pairs)
  joined_rises = Rises-join (old p).pairs (old r).pairs (old p).low s (old r).high p_rises
      (omega (arith, p_low, k_lt_s)) r_rises (omega (arith, s_lt_r_high))

  pub joined : IsLeafNode (record (old p) { high = (old r).high; pairs = (old p).pairs ++ (old r).pairs })
  joined = record { tag = left_leaf; level = (tree.leaf p left_leaf).level; rises = joined_rises }

module _ {end : ℕ} (old new : ℕ → Node) (root height q k p s r : ℕ) (tree : IsTreeOf end old root height)
    (step : IsMergeStep old new q k p s r) where
  lt : k < s
  lt = k_lt_s old new root height q k p s r tree step.named step.named_right step.next step.left_leaf step.right_leaf

  q_r : q ≢ r
  q_r = q_ne_r old new root height q k p s r tree step.named step.named_right step.next step.left_leaf step.right_leaf

  p_r : p ≢ r
  p_r = p_ne_r old new root height q k p s r tree step.named step.named_right step.next step.left_leaf step.right_leaf

  rises : Rises (old q).low (old q).high (old q).pairs
  rises = (tree.inner q step.named.0).rises

  -- what stays of each node but r
  same_tag : (x : ℕ) → x ≢ r → (new x).tag ≡ (old x).tag
  same_tag x ne = elim (cases_eq x q) [
    | inl e ↦ rw e (rw step.parent refl)
    | inr nq ↦ elim (cases_eq x p) [ inl e ↦ rw e (rw step.left refl) | inr np ↦ rw (step.others x nq np ne) refl ]
  ]

  same_level : (x : ℕ) → x ≢ r → (new x).level ≡ (old x).level
  same_level x ne = elim (cases_eq x q) [
    | inl e ↦ rw e (rw step.parent refl)
    | inr nq ↦ elim (cases_eq x p) [ inl e ↦ rw e (rw step.left refl) | inr np ↦ rw (step.others x nq np ne) refl ]
  ]

  same_low : (x : ℕ) → x ≢ r → (new x).low ≡ (old x).low
  same_low x ne = elim (cases_eq x q) [
    | inl e ↦ rw e (rw step.parent refl)
    | inr nq ↦ elim (cases_eq x p) [ inl e ↦ rw e (rw step.left refl) | inr np ↦ rw (step.others x nq np ne) refl ]
  ]

  same_high : (x : ℕ) → x ≢ r → x ≢ p → (new x).high ≡ (old x).high
  same_high x ne np = elim (cases_eq x q) [
    | inl e ↦ rw e (rw step.parent refl)
    | inr nq ↦ rw (step.others x nq np ne) refl
  ]

  node_same : (c : ℕ) → c ≢ r → IsNode (old c) → IsNode (new c)
  node_same c ne is = rw (same_tag c ne) is

  -- only q names p and r
  by_q : (u x c : ℕ) → Names old u x c → u ≢ q → (c ≢ p) × (c ≢ r)
  by_q u x c n ne = (λ e. ne (tree.once u q x k p (rw e at n) step.named), λ e. ne (tree.once u q x s r (rw e at n) step.named_right))

  -- a node that names another is neither leaf
  other : (u x c : ℕ) → Names old u x c → u ≢ q → new u ≡ old u
  other u x c n ne = step.others u ne
      (λ e. omega (arith, n.0, step.left_leaf, ap (λ y. (old y).tag) e))
      (λ e. omega (arith, n.0, step.right_leaf, ap (λ y. (old y).tag) e))

  names_back : (u x c : ℕ) → Names new u x c → Names old u x c × (c ≢ r)
  names_back u x c n = elim (cases_eq u q) [
    | inl e ↦
        let n' : Names new q x c = rw e at n in
        let pairs : lookup_at (del_pair (old q).pairs s) x ≡ Some c = rw step.parent at n'.1 in
        let ne : x ≢ s = λ same. grind (arith, lookup-del_same (old q).pairs _ _ s rises, rw same at pairs) in
        let found : lookup_at (old q).pairs x ≡ Some c = sym (lookup-del_other (old q).pairs s x ne) ∙ pairs in
        let back : Names old q x c = (step.named.0, found) in
        (rw e back, λ same. ne (sym (tree.child_low q x r (rw same at back)) ∙ tree.child_low q s r step.named_right))
    | inr nq ↦ elim (cases_eq u r) [
      | inl e ↦ absurd (omega (arith, step.right, n.0, ap (λ y. (new y).tag) e))
      | inr nr ↦ elim (cases_eq u p) [
        | inl e ↦ absurd (omega (arith, step.left_leaf, same_tag p p_r, n.0, ap (λ y. (new y).tag) e))
        | inr np ↦ let back : Names old u x c = rw (step.others u nq np nr) at n in (back, (by_q u x c back nq).1)
      ]
    ]
  ]

  names_to : (u x c : ℕ) → Names old u x c → c ≢ r → Names new u x c
  names_to u x c n ne = elim (cases_eq u q) [
    | inl e ↦
        let n' : Names old q x c = rw e at n in
        let off : x ≢ s = λ same. ne (grind (arith, n'.1, step.named_right.1, same)) in
        rw e (rw step.parent (step.named.0, lookup-del_other (old q).pairs s x off ∙ n'.1))
    | inr nq ↦ rw (other u x c n nq) n
  ]

  -- the next key after a pair of the parent that is not the left leaf's
  next_else : (x c : ℕ) → Names old q x c → x ≢ k → next_key (del_pair (old q).pairs s) (old q).high x ≡ next_key
      (old q).pairs (old q).high x
  next_else x c n ne = next-del_other (old q).pairs (old q).high s x (λ is. elim (cases_lt x k) [
    | inl below ↦ omega (arith, is, lt, next-le_found (old q).pairs _ _ x k p rises step.named.1 below)
    | inr from ↦ omega (
      arith,
      is,
      step.next,
      next-above (old q).pairs (old q).high x
          (found_high _ _ _ x c rises n.1),
      next-le_found (old q).pairs _ _ k x c rises n.1 (omega arith),
    )
  ])

  child_high : (u x c : ℕ) → Names new u x c → (new c).high ≡ next_key (new u).pairs (new u).high x
  child_high u x c n =
      let (n_old, ne) = names_back u x c n in
      elim (cases_eq u q) [
        | inl e ↦
            let n_q : Names old q x c = rw e at n_old in
            elim (cases_eq c p) [
              | inl same ↦
                  let x_is : x ≡ k = sym (tree.child_low q x p (rw same at n_q)) ∙ tree.child_low q k p step.named in
                  rw (e, same, x_is) (rw (step.left, step.parent)
                  (tree.child_high q s r step.named_right
                  ∙ sym (next-del_same (old q).pairs _ _ s k rises lt step.next)))
              | inr np ↦
                  let off : x ≢ k = λ same. np (grind (arith, n_q.1, step.named.1, same)) in
                  rw e (rw step.parent (same_high c ne np ∙ tree.child_high q x c n_q ∙ sym (next_else x c n_q off)))
            ]
        | inr nq ↦ same_high c ne (by_q u x c n_old nq).0 ∙ tree.child_high u x c n_old
            ∙ ap (λ (y : Node). next_key y.pairs y.high x) (sym (other u x c n_old nq))
      ]

  root_ne : root ≢ r
  root_ne e = tree.unnamed q s (rw (← e) at step.named_right)

  pub merge_tree : IsTreeOf end new root height
  merge_tree = record {
    leaf = leaf;
    inner = inner;
    root_is = node_same root root_ne tree.root_is;
    root_level = same_level root root_ne ∙ tree.root_level;
    root_low = same_low root root_ne ∙ tree.root_low;
    root_high = same_high root root_ne (λ e. tree.unnamed q k (rw (← e) at step.named)) ∙ tree.root_high;
    child_is = λ u x c n. let (n_old, ne) = names_back u x c n in node_same c ne (tree.child_is u x c n_old);
    child_level = λ u x c n. let (n_old, ne) = names_back u x c n in
        omega (arith, same_level c ne, tree.child_level u x c n_old, same_level u (u_ne u n_old.0));
    child_low = λ u x c n. let (n_old, ne) = names_back u x c n in same_low c ne ∙ tree.child_low u x c n_old;
    child_high = child_high;
    once = λ u u' x x' c n n'. tree.once u u' x x' c (names_back u x c n).0 (names_back u' x' c n').0;
    unnamed = λ u x n. tree.unnamed u x (names_back u x root n).0;
    named = λ c is off.
        let ne : c ≢ r = λ e. omega (arith, step.right, is, ap (λ y. (new y).tag) e) in
        let (u, x, n) = tree.named c (rw (← same_tag c ne) is) off in
        (u, x, names_to u x c n ne);
  }
    where
      u_ne : (u : ℕ) → (old u).tag ≡ 3 → u ≢ r
      u_ne u tag e = omega (arith, tag, step.right_leaf, ap (λ y. (old y).tag) e)

      leaf : (x : ℕ) → (new x).tag ≡ 2 → IsLeafNode (new x)
      leaf x tag = elim (cases_eq x q) [
        | inl e ↦ absurd (omega (arith, step.named.0, same_tag q q_r, ap (λ y. (new y).tag) e, tag))
        | inr nq ↦ elim (cases_eq x p) [
          | inl e ↦ rw e (rw step.left
              (joined old new root height q k p s r tree step.named step.named_right step.next step.left_leaf
              step.right_leaf))
          | inr np ↦ elim (cases_eq x r) [
            | inl e ↦ absurd (omega (arith, step.right, tag, ap (λ y. (new y).tag) e))
            | inr nr ↦ rw (step.others x nq np nr) (tree.leaf x (rw (step.others x nq np nr) at tag))
          ]
        ]
      ]

      inner : (x : ℕ) → (new x).tag ≡ 3 → IsInnerNode (new x)
      inner x tag = elim (cases_eq x q) [
        | inl e ↦ rw e (rw step.parent (record {
          tag = step.named.0;
          level = (tree.inner q step.named.0).level;
          rises = Rises-del (old q).pairs _ _ s rises;
          starts = StartsAt-del (old q).pairs _ s (tree.inner q step.named.0).starts
              (omega (arith, lt, found_low _ _ _ k p rises step.named.1));
        }))
        | inr nq ↦ elim (cases_eq x p) [
          | inl e ↦ absurd (omega (arith, step.left_leaf, same_tag p p_r, tag, ap (λ y. (new y).tag) e))
          | inr np ↦ elim (cases_eq x r) [
            | inl e ↦ absurd (omega (arith, step.right, tag, ap (λ y. (new y).tag) e))
            | inr nr ↦ rw (step.others x nq np nr) (tree.inner x (rw (step.others x nq np nr) at tag))
          ]
        ]
      ]
