-- From names and levels: each level parts the keys, and a descent by level reaches the leaf.
use Rattle.std.proofs.Common.{◌≡◌, ℕ, zero, suc, ◌+◌, ◌-◌, ◌<◌, ◌≤◌, ◌≢◌, inl, inr, Some, sym, ◌∙◌, arith}
use Rattle.std.proofs.lemmas.Bool.{cases_eq}
use Rattle.vm_map.specs.Map.{floor_pair}
use Rattle.vm_tree_model.specs.Node.{Node, Covers, IsNode, Names, IsTreeOf, IsPartedAt}
use Rattle.vm_map.proofs.MapLemmas.{found_low, next-le_high, floor_is, floor_some, floor_one}

module _ {end : ℕ} (node : ℕ → Node) (root height : ℕ) (tree : IsTreeOf end node root height) where
  -- a child's fences lie in its parent's
  pub child_within : (q k c key : ℕ) → Names node q k c → Covers (node c) key → Covers (node q) key
  child_within q k c key named covers =
      let inner = tree.inner q named.0 in
      let from = found_low _ _ _ k c inner.rises named.1 in
      let upto = next-le_high (node q).pairs (node q).low (node q).high k inner.rises in
      (grind (arith, tree.child_low q k c named, covers.0), grind (arith, tree.child_high q k c named, covers.1))

  -- two children of one node that cover a key are one
  pub child_one : (q k k' c c' key : ℕ) → Names node q k c → Names node q k' c' → Covers (node c) key → Covers (node c') key → c ≡ c'
  child_one q k k' c c' key n n' covers covers' =
      let inner = tree.inner q n.0 in
      let same : k ≡ k' = floor_one (node q).pairs (node q).low (node q).high key k k' c c' inner.rises
      n.1 (grind (arith, tree.child_low q k c n, covers.0)) (grind (arith, tree.child_high q k c n, covers.1))
      n'.1 (grind (arith, tree.child_low q k' c' n', covers'.0)) (grind (arith, tree.child_high q k' c' n', covers'.1)) in
      grind (arith, same, n.1, n'.1)

  -- the child that a descent takes: one step of the descent
  pub descent_step : (q key : ℕ) → (node q).tag ≡ 3 → Covers (node q) key → (k : ℕ) × (c : ℕ)
      × (floor_pair (node q).pairs key ≡ Some (k, c)) × Names node q k c × Covers (node c) key
  descent_step q key tag covers =
      let inner = tree.inner q tag in
      let (x, is) = floor_some (node q).pairs (node q).low key inner.starts covers.0 in
      let f = floor_is (node q).pairs (node q).low (node q).high key x inner.rises covers.1 is in
      let named : Names node q x.0 x.1 = (tag, f.found) in (
        x.0,
        x.1,
        is,
        named,
        (
          grind (arith, tree.child_low q x.0 x.1 named, f.up_to),
          grind (arith, tree.child_high q x.0 x.1 named, f.next),
        ),
      )

  module _ (bound : ℕ) (bounded : (p : ℕ) → (node p).level ≤ bound) where
    -- no node stands above the root
    level_up : (d p : ℕ) → IsNode (node p) → bound ≤ (node p).level + d → (node p).level ≤ height
    level_up zero p is le = elim (cases_eq p root) [
      | inl same ↦ grind (arith, same, tree.root_level)
      | inr other ↦ let (q, k, n) = tree.named p is other in absurd (omega (arith, tree.child_level q k p n, bounded q, le))
    ]
    level_up (suc d) p is le = elim (cases_eq p root) [
      | inl same ↦ grind (arith, same, tree.root_level)
      | inr other ↦ let (q, k, n) = tree.named p is other in
          let tag : (node q).tag ≡ 3 = n.0 in
          let up = level_up d q (omega arith, omega arith) (omega (arith, tree.child_level q k p n, le)) in
          omega (arith, tree.child_level q k p n, up)
    ]

    pub level_le : (p : ℕ) → IsNode (node p) → (node p).level ≤ height
    level_le p is = level_up bound p is (omega arith)

    -- a node at the root's level is the root
    pub root_alone : (p : ℕ) → IsNode (node p) → height ≤ (node p).level → p ≡ root
    root_alone p is le = elim (cases_eq p root) [
      | inl same ↦ same
      | inr other ↦ let (q, k, n) = tree.named p is other in
          let tag : (node q).tag ≡ 3 = n.0 in
          absurd (omega (arith, tree.child_level q k p n, level_le q (omega arith, omega arith)))
    ]

    -- two nodes of a level that cover a key are one
    pub one_at : (d level key p q : ℕ) → level + d ≡ height → IsNode (node p) → (node p).level ≡ level
        → Covers (node p) key → IsNode (node q) → (node q).level ≡ level → Covers (node q) key → p ≡ q
    one_at zero level key p q sum np lp cp nq lq cq = root_alone p np (omega arith) ∙ sym (root_alone q nq (omega arith))
    one_at (suc d) level key p q sum np lp cp nq lq cq =
        let not_root : (x : ℕ) → (node x).level ≡ level → x ≡ root → ⊥ = λ x lx same. grind (arith, same, tree.root_level) in
        let (pp, pk, pn) = tree.named p np (not_root p lp) in
        let (qp, qk, qn) = tree.named q nq (not_root q lq) in
        let tag_p : (node pp).tag ≡ 3 = pn.0 in
        let tag_q : (node qp).tag ≡ 3 = qn.0 in
        let up : pp ≡ qp = one_at d (level + 1) key pp qp (omega arith)
        (omega arith, omega arith) (omega (arith, tree.child_level pp pk p pn)) (child_within pp pk p key pn cp)
        (omega arith, omega arith) (omega (arith, tree.child_level qp qk q qn)) (child_within qp qk q key qn cq) in
        let qn' : Names node pp qk q = rw up qn in
        child_one pp pk qk p q key pn qn' cp cq

    -- some node of each level covers a key
    pub some_at : (d level key : ℕ) → level + d ≡ height → key < end → (p : ℕ) × IsNode (node p)
        × ((node p).level ≡ level) × Covers (node p) key
    some_at zero level key sum lt =
        (root, tree.root_is, omega (arith, tree.root_level), (omega (arith, tree.root_low), rw tree.root_high lt))
    some_at (suc d) level key sum lt =
        let (p, is, at, covers) = some_at d (level + 1) key (omega arith) lt in
        let not_leaf : (node p).tag ≢ 2 = λ tag. omega (arith, (tree.leaf p tag).level, at) in
        let tag : (node p).tag ≡ 3 = omega (arith, is, not_leaf) in
        let (k, c, found, named, below) = descent_step p key tag covers in
        (c, tree.child_is p k c named, omega (arith, tree.child_level p k c named, at), below)

    pub parted : (level : ℕ) → level ≤ height → IsPartedAt end node level
    parted level le = record {
      some = λ key lt. some_at (height - level) level key (omega arith) lt;
      one = λ key p q. one_at (height - level) level key p q (omega arith);
    }
