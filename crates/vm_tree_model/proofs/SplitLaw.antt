-- A split below the root: the node keeps its lower half, the right sibling stands on a free page, and the parent names it.
use Rattle.std.proofs.Common.{◌≡◌, ℕ, ◌<◌, ◌≤◌, ◌≢◌, ◌⊎◌, inl, inr, [], ◌∷◌, ◌++◌, length, Some, refl, sym, ap, ◌∙◌, subst, arith}
use Rattle.std.proofs.lemmas.Bool.{cases_eq, cases_lt}
use Rattle.vm_map.specs.Map.{Pairs, lookup_at, put_pair, Rises, StartsAt, next_key}
use Rattle.vm_tree_model.specs.Node.{Node, IsLeafNode, IsInnerNode, IsNode, Names, IsTreeOf}
use Rattle.vm_map.proofs.MapLemmas.{found_low, found_high, lookup-put_same, lookup-put_other, Rises-put, Rises-append}
use Rattle.vm_map.proofs.MapLemmas.{lookup-cut_below, lookup-cut_above, next-cut_below, next-cut_above, next-put_from}
use Rattle.vm_map.proofs.MapLemmas.{next-put_below, next-between, next-le_found, next-le_high, StartsAt-put}
use Rattle.vm_map.proofs.MapLemmas.{StartsAt-append}

-- Node p, which q names at k, is split: b goes to page r, whose first key is sep
pub record IsSplitStep (old new : ℕ → Node) (q k p r sep : ℕ) (a b : Pairs) : Type 0 where
  pub named : Names old q k p
  pub free : (old r).tag ≡ 0
  pub halves : (old p).pairs ≡ a ++ b
  pub left_some : 1 ≤ length a
  pub starts : StartsAt sep b
  pub parent : new q ≡ record (old q) { pairs = put_pair (old q).pairs sep r }
  pub left : new p ≡ record (old p) { high = sep; pairs = a }
  pub right : new r ≡ record (old p) { low = sep; pairs = b }
  pub others : (x : ℕ) → x ≢ q → x ≢ p → x ≢ r → new x ≡ old x

module _ {end : ℕ} (old new : ℕ → Node) (root height q k p r sep : ℕ) (a b : Pairs)
    (tree : IsTreeOf end old root height) (step : IsSplitStep old new q k p r sep a b) where
  pub q_tag : (old q).tag ≡ 3
  q_tag = step.named.0

  pub p_is : IsNode (old p)
  p_is = tree.child_is q k p step.named

  pub q_ne_p : q ≢ p
  q_ne_p same = omega (arith, tree.child_level q k p step.named, ap (λ x. (old x).level) same)

  pub r_ne_q : r ≢ q
  r_ne_q same = omega (arith, step.free, q_tag, ap (λ x. (old x).tag) same)

  pub r_not : (c : ℕ) → IsNode (old c) → c ≢ r
  r_not c is same = omega (arith, step.free, is, ap (λ x. (old x).tag) same)

  pub p_rises : Rises (old p).low (old p).high (a ++ b)
  p_rises = elim (cases_eq (old p).tag 2) [
    | inl leaf ↦ rw step.halves at (tree.leaf p leaf).rises
    | inr other ↦ rw step.halves at (tree.inner p (omega (arith, p_is))).rises
  ]

  parts : Rises (old p).low sep a × Rises sep (old p).high b
  parts = Rises-append a b (old p).low sep (old p).high p_rises step.starts

  low_lt_sep : (old p).low < sep
  low_lt_sep = first a parts.0 step.left_some
    where
      first : (a : Pairs) → Rises (old p).low sep a → 1 ≤ length a → (old p).low < sep
      first [] r some = absurd (omega arith)
      first (e ∷ es) r some = omega (arith, r.0, r.1)

  sep_lt_high : sep < (old p).high
  sep_lt_high = first b parts.1 step.starts
    where
      first : (b : Pairs) → Rises sep (old p).high b → StartsAt sep b → sep < (old p).high
      first [] r s = absurd s
      first (e ∷ es) r s = omega (arith, r.0, r.1, s)

  k_is : (old p).low ≡ k
  k_is = tree.child_low q k p step.named

  p_high : (old p).high ≡ next_key (old q).pairs (old q).high k
  p_high = tree.child_high q k p step.named

  q_rises : Rises (old q).low (old q).high (old q).pairs
  q_rises = (tree.inner q q_tag).rises

  q_high_le : (old p).high ≤ (old q).high
  q_high_le = omega (arith, p_high, next-le_high (old q).pairs (old q).low (old q).high k q_rises)

  k_low : (old q).low ≤ k
  k_low = found_low _ _ _ k p q_rises step.named.1

  -- the parent had no pair of the separator
  sep_new : (c : ℕ) → Names old q sep c → ⊥
  sep_new c n = omega (
    arith,
    k_is,
    low_lt_sep,
    sep_lt_high,
    p_high,
    next-le_found (old q).pairs (old q).low
        (old q).high k sep c q_rises n.1 (omega (arith, k_is, low_lt_sep)),
  )

  -- what stays of each node but r
  pub same_tag : (x : ℕ) → x ≢ r → (new x).tag ≡ (old x).tag
  same_tag x ne = elim (cases_eq x q) [
    | inl e ↦ rw e (rw step.parent refl)
    | inr nq ↦ elim (cases_eq x p) [ inl e ↦ rw e (rw step.left refl) | inr np ↦ rw (step.others x nq np ne) refl ]
  ]

  same_level : (x : ℕ) → x ≢ r → (new x).level ≡ (old x).level
  same_level x ne = elim (cases_eq x q) [
    | inl e ↦ rw e (rw step.parent refl)
    | inr nq ↦ elim (cases_eq x p) [ inl e ↦ rw e (rw step.left refl) | inr np ↦ rw (step.others x nq np ne) refl ]
  ]

  pub same_low : (x : ℕ) → x ≢ r → (new x).low ≡ (old x).low
  same_low x ne = elim (cases_eq x q) [
    | inl e ↦ rw e (rw step.parent refl)
    | inr nq ↦ elim (cases_eq x p) [ inl e ↦ rw e (rw step.left refl) | inr np ↦ rw (step.others x nq np ne) refl ]
  ]

  pub same_high : (x : ℕ) → x ≢ r → x ≢ p → (new x).high ≡ (old x).high
  same_high x ne np = elim (cases_eq x q) [
    | inl e ↦ rw e (rw step.parent refl)
    | inr nq ↦ rw (step.others x nq np ne) refl
  ]

  node_same : (c : ℕ) → IsNode (old c) → IsNode (new c)
  node_same c is = rw (same_tag c (r_not c is)) is

  -- which old node had a pair that new node u has
  abbrev Origin : ℕ → ℕ → ℕ → Type 0
  Origin o u x = ((u ≡ o) × (o ≡ p → x < sep)) ⊎ ((u ≡ r) × (o ≡ p) × (sep ≤ x))

  -- the sibling is named by the parent alone
  names_r : (u x : ℕ) → Names new u x r → (u ≡ q) × (x ≡ sep)
  names_r u x n = elim (cases_eq u q) [
    | inl e ↦ elim (cases_eq x sep) [
      | inl same ↦ (e, same)
      | inr other ↦
          let n' : Names new q x r = rw e at n in
          let pairs : lookup_at (put_pair (old q).pairs sep r) x ≡ Some r = rw step.parent at n'.1 in
          absurd (r_not r (tree.child_is q x r (q_tag, sym (lookup-put_other (old q).pairs sep r x other) ∙ pairs)) refl)
    ]
    | inr nq ↦ absurd (elim (cases_eq u p) [
      | inl e ↦
          let n' : Names new p x r = rw e at n in
          let tag : (old p).tag ≡ 3 = rw step.left at n'.0 in
          let found : lookup_at a x ≡ Some r = rw step.left at n'.1 in
          let lt = found_high a (old p).low sep x r parts.0 found in
          r_not r (tree.child_is p x r (tag, rw step.halves (lookup-cut_below a b _ sep _ x p_rises step.starts lt ∙ found))) refl
      | inr np ↦ elim (cases_eq u r) [
        | inl e ↦
            let n' : Names new r x r = rw e at n in
            let tag : (old p).tag ≡ 3 = rw step.right at n'.0 in
            let found : lookup_at b x ≡ Some r = rw step.right at n'.1 in
            let le = found_low b sep (old p).high x r parts.1 found in
            r_not r (tree.child_is p x r (tag, rw step.halves (lookup-cut_above a b _ sep _ x p_rises step.starts le ∙ found))) refl
        | inr nr ↦ r_not r (tree.child_is u x r (rw (step.others u nq np nr) at n)) refl
      ]
    ])
  ]

  names_back : (u x c : ℕ) → Names new u x c → c ≢ r → (o : ℕ) × Names old o x c × Origin o u x
  names_back u x c n ne = elim (cases_eq u q) [
    | inl e ↦
        let n' : Names new q x c = rw e at n in
        let pairs : lookup_at (put_pair (old q).pairs sep r) x ≡ Some c = rw step.parent at n'.1 in
        let other : x ≢ sep = λ same. ne (grind (arith, lookup-put_same (old q).pairs sep r, rw same at pairs)) in
        (q, (q_tag, sym (lookup-put_other (old q).pairs sep r x other) ∙ pairs), inl (e, λ same. absurd (q_ne_p same)))
    | inr nq ↦ elim (cases_eq u p) [
      | inl e ↦
          let n' : Names new p x c = rw e at n in
          let tag : (old p).tag ≡ 3 = rw step.left at n'.0 in
          let found : lookup_at a x ≡ Some c = rw step.left at n'.1 in
          let lt = found_high a (old p).low sep x c parts.0 found in
          (p, (tag, rw step.halves (lookup-cut_below a b _ sep _ x p_rises step.starts lt ∙ found)), inl (e, λ _. lt))
      | inr np ↦ elim (cases_eq u r) [
        | inl e ↦
            let n' : Names new r x c = rw e at n in
            let tag : (old p).tag ≡ 3 = rw step.right at n'.0 in
            let found : lookup_at b x ≡ Some c = rw step.right at n'.1 in
            let le = found_low b sep (old p).high x c parts.1 found in
            (p, (tag, rw step.halves (lookup-cut_above a b _ sep _ x p_rises step.starts le ∙ found)), inr (e, refl, le))
        | inr nr ↦ (u, rw (step.others u nq np nr) at n, inl (refl, λ same. absurd (np same)))
      ]
    ]
  ]

  names_to : (o x c : ℕ) → Names old o x c → (u : ℕ) × (x' : ℕ) × Names new u x' c
  names_to o x c n = elim (cases_eq o q) [
    | inl e ↦
        let n' : Names old q x c = rw e at n in
        let other : x ≢ sep = λ same. sep_new c (rw same at n') in
        (q, x, rw step.parent (q_tag, lookup-put_other (old q).pairs sep r x other ∙ n'.1))
    | inr nq ↦ elim (cases_eq o p) [
      | inl e ↦
          let n' : Names old p x c = rw e at n in
          let found : lookup_at (a ++ b) x ≡ Some c = rw step.halves at n'.1 in
          elim (cases_lt x sep) [
            | inl lt ↦ (p, x, rw step.left (n'.0, sym (lookup-cut_below a b _ sep _ x p_rises step.starts lt) ∙ found))
            | inr le ↦ (r, x, rw step.right (n'.0, sym (lookup-cut_above a b _ sep _ x p_rises step.starts le) ∙ found))
          ]
      | inr np ↦ (o, x, rw (step.others o nq np (r_not o (omega (arith, n.0), omega (arith, n.0)))) n)
    ]
  ]

  -- the level of the node that had the pair
  origin_level : (o u x : ℕ) → (old o).tag ≡ 3 → Origin o u x → (new u).level ≡ (old o).level
  origin_level o u x tag (inl same) = rw same.0 (same_level o (r_not o (omega arith, omega arith)))
  origin_level o u x tag (inr moved) = rw moved.0 (rw moved.1 (rw step.right refl))

  -- the next key after a pair of the parent that is not the split child's
  next_parent : (x c : ℕ) → Names old q x c → x ≢ k → next_key (put_pair (old q).pairs sep r) (old q).high
      x ≡ next_key (old q).pairs (old q).high x
  next_parent x c n ne = elim (cases_lt x sep) [
    | inl below ↦
        let put = next-put_below (old q).pairs (old q).high sep r x below (omega (arith, sep_lt_high, q_high_le)) in
        elim (cases_lt x k) [
          | inl lt ↦ omega (
            arith,
            put,
            k_is,
            low_lt_sep,
            next-le_found (old q).pairs (old q).low (old q).high x k p
                q_rises step.named.1 lt,
          )
          | inr ge ↦ absurd (omega (
            arith,
            p_high,
            sep_lt_high,
            next-le_found (old q).pairs (old q).low (old q).high k
                x c q_rises n.1 (omega arith),
          ))
        ]
    | inr from ↦ next-put_from (old q).pairs (old q).high sep r x from
  ]

  at_q : (o u x : ℕ) → o ≡ q → Origin o u x → u ≡ q
  at_q o u x oq (inl same) = same.0 ∙ oq
  at_q o u x oq (inr moved) = absurd (q_ne_p (sym oq ∙ moved.1))

  next_same : (o u x c : ℕ) → Names old o x c → c ≢ p → Origin o u x
      → next_key (old o).pairs (old o).high x ≡ next_key (new u).pairs (new u).high x
  next_same o u x c n np (inr moved) =
      rw moved.0 (rw moved.1 (rw step.right
      (rw step.halves (next-cut_above a b _ sep _ x p_rises step.starts moved.2))))
  next_same o u x c n np (inl same) = rw same.0 (elim (cases_eq o p) [
    | inl e ↦ rw e (rw step.left (rw step.halves (next-cut_below a b sep (old p).high x step.starts (same.1 e))))
    | inr nop ↦ elim (cases_eq o q) [
      | inl e ↦
          let n_q : Names old q x c = rw e at n in
          let other : x ≢ k = λ xk. np (grind (arith, n_q.1, step.named.1, xk)) in
          rw e (rw step.parent (sym (next_parent x c n_q other)))
      | inr noq ↦ rw (step.others o noq nop (r_not o (omega (arith, n.0), omega (arith, n.0)))) refl
    ]
  ])

  -- the high fence of a child that is not the sibling
  high_old : (o u x c : ℕ) → Names old o x c → Origin o u x → c ≢ r → (new c).high ≡ next_key (new u).pairs (new u).high x
  high_old o u x c n_old origin ne = elim (cases_eq c p) [
    | inl e ↦
        let n_p : Names old o x p = rw e at n_old in
        let oq : o ≡ q = tree.once o q x k p n_p step.named in
        let xk : x ≡ k = sym (tree.child_low o x p n_p) ∙ k_is in
        let uq : u ≡ q = at_q o u x oq origin in
        let put = next-put_below (old q).pairs (old q).high sep r k (omega (arith, k_is, low_lt_sep))
        (omega (arith, sep_lt_high, q_high_le)) in
        rw e (rw uq (rw xk (rw step.left (rw step.parent (omega (arith, put, p_high, sep_lt_high))))))
    | inr np ↦ same_high c ne np ∙ tree.child_high o x c n_old ∙ next_same o u x c n_old np origin
  ]

  child_high : (u x c : ℕ) → Names new u x c → (new c).high ≡ next_key (new u).pairs (new u).high x
  child_high u x c n = elim (cases_eq c r) [
    | inl e ↦
        let (uq, xs) = names_r u x (rw e at n) in
        let next = next-put_from (old q).pairs (old q).high sep r sep (omega arith) in
        let between = next-between (old q).pairs (old q).high k sep (omega (arith, k_is, low_lt_sep))
        (omega (arith, p_high, sep_lt_high)) in
        rw e (rw uq (rw xs (rw step.right (rw step.parent (p_high ∙ sym between ∙ sym next)))))
    | inr ne ↦ let (o, n_old, origin) = names_back u x c n ne in high_old o u x c n_old origin ne
  ]

  origin_one : (o u u' x x' c : ℕ) → Names old o x c → Names old o x' c → Origin o u x → Origin o u' x' → u ≡ u'
  origin_one o u u' x x' c n n' (inl s) (inl s') = s.0 ∙ sym s'.0
  origin_one o u u' x x' c n n' (inr m) (inr m') = m.0 ∙ sym m'.0
  origin_one o u u' x x' c n n' (inl s) (inr m') = absurd (omega (arith, s.1 m'.1, m'.2, tree.child_low o x c n, tree.child_low o x' c n'))
  origin_one o u u' x x' c n n' (inr m) (inl s') = absurd (omega (arith, s'.1 m.1, m.2, tree.child_low o x c n, tree.child_low o x' c n'))

  pub split_tree : IsTreeOf end new root height
  split_tree = record {
    leaf = leaf;
    inner = inner;
    root_is = node_same root tree.root_is;
    root_level = same_level root root_ne ∙ tree.root_level;
    root_low = same_low root root_ne ∙ tree.root_low;
    root_high = same_high root root_ne (λ e. tree.unnamed q k (rw (← e) at step.named)) ∙ tree.root_high;
    child_is = λ u x c n. elim (cases_eq c r) [
      | inl e ↦ rw e (rw step.right p_is)
      | inr ne ↦ let (o, n_old, origin) = names_back u x c n ne in node_same c (tree.child_is o x c n_old)
    ];
    child_level = λ u x c n. elim (cases_eq c r) [
      | inl e ↦ let (uq, xs) = names_r u x (rw e at n) in rw e (rw uq (rw step.right (rw step.parent (tree.child_level q k p step.named))))
      | inr ne ↦ let (o, n_old, origin) = names_back u x c n ne in
          omega (arith, same_level c ne, tree.child_level o x c n_old, origin_level o u x n_old.0 origin)
    ];
    child_low = λ u x c n. elim (cases_eq c r) [
      | inl e ↦ let (uq, xs) = names_r u x (rw e at n) in rw e (rw step.right (sym xs))
      | inr ne ↦ let (o, n_old, origin) = names_back u x c n ne in same_low c ne ∙ tree.child_low o x c n_old
    ];
    child_high = child_high;
    once = λ u u' x x' c n n'. elim (cases_eq c r) [
      | inl e ↦ (names_r u x (rw e at n)).0 ∙ sym (names_r u' x' (rw e at n')).0
      | inr ne ↦
          let (o, n_old, origin) = names_back u x c n ne in
          let (o', n_old', origin') = names_back u' x' c n' ne in
          let oo : o' ≡ o = tree.once o' o x' x c n_old' n_old in
          origin_one o u u' x x' c n_old (rw oo at n_old') origin (subst (λ y. Origin y u' x') oo origin')
    ];
    unnamed = λ u x n. let (o, n_old, origin) = names_back u x root n root_ne in tree.unnamed o x n_old;
    named = λ c is other. elim (cases_eq c r) [
      | inl e ↦ (q, sep, rw e (rw step.parent (q_tag, lookup-put_same (old q).pairs sep r)))
      | inr ne ↦ let (o, x, n_old) = tree.named c (rw (← same_tag c ne) is) other in let (u, x', n) = names_to o x c n_old in (u, x', n)
    ];
  }
    where
      root_ne : root ≢ r
      root_ne = r_not root tree.root_is

      leaf : (x : ℕ) → (new x).tag ≡ 2 → IsLeafNode (new x)
      leaf x tag = elim (cases_eq x q) [
        | inl e ↦ absurd (omega (arith, q_tag, same_tag q (λ e'. r_ne_q (sym e')), ap (λ y. (new y).tag) e, tag))
        | inr nq ↦ elim (cases_eq x p) [
          | inl e ↦ rw e (rw step.left (half_left (rw step.left at (rw e at tag))))
          | inr np ↦ elim (cases_eq x r) [
            | inl e ↦ rw e (rw step.right (half_right (rw step.right at (rw e at tag))))
            | inr nr ↦ rw (step.others x nq np nr) (tree.leaf x (rw (step.others x nq np nr) at tag))
          ]
        ]
      ]
        where
          half_left : (old p).tag ≡ 2 → IsLeafNode (record (old p) { high = sep; pairs = a })
          half_left t = record { tag = t; level = (tree.leaf p t).level; rises = parts.0 }

          half_right : (old p).tag ≡ 2 → IsLeafNode (record (old p) { low = sep; pairs = b })
          half_right t = record { tag = t; level = (tree.leaf p t).level; rises = parts.1 }

      inner : (x : ℕ) → (new x).tag ≡ 3 → IsInnerNode (new x)
      inner x tag = elim (cases_eq x q) [
        | inl e ↦ rw e (rw step.parent (record {
          tag = q_tag;
          level = (tree.inner q q_tag).level;
          rises = Rises-put (old q).pairs _ _ sep r q_rises (omega (arith, k_low, k_is, low_lt_sep))
              (omega (arith, sep_lt_high, q_high_le));
          starts = StartsAt-put (old q).pairs _ sep r (tree.inner q q_tag).starts (omega (arith, k_low, k_is, low_lt_sep));
        }))
        | inr nq ↦ elim (cases_eq x p) [
          | inl e ↦ rw e (rw step.left (half_left (rw step.left at (rw e at tag))))
          | inr np ↦ elim (cases_eq x r) [
            | inl e ↦ rw e (rw step.right (half_right (rw step.right at (rw e at tag))))
            | inr nr ↦ rw (step.others x nq np nr) (tree.inner x (rw (step.others x nq np nr) at tag))
          ]
        ]
      ]
        where
          half_left : (old p).tag ≡ 3 → IsInnerNode (record (old p) { high = sep; pairs = a })
          half_left t = record {
            tag = t;
            level = (tree.inner p t).level;
            rises = parts.0;
            starts = StartsAt-append a b _ (rw step.halves at (tree.inner p t).starts) step.left_some;
          }

          half_right : (old p).tag ≡ 3 → IsInnerNode (record (old p) { low = sep; pairs = b })
          half_right t = record { tag = t; level = (tree.inner p t).level; rises = parts.1; starts = step.starts }
