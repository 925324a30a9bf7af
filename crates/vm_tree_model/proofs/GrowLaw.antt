-- A new root stands over the old one: the first half of a split of the root.
use Rattle.std.proofs.Common.{◌≡◌, ℕ, ◌+◌, ◌≤◌, ◌≢◌, inl, inr, [], ◌∷◌, Some, refl, sym, ap, ◌∙◌, arith, lit≤}
use Rattle.std.proofs.lemmas.Bool.{cases_eq}
use Rattle.std.proofs.lemmas.Bool.Decides.{nat_tests}
use Rattle.vm_map.specs.Map.{Pairs, lookup_at}
use Rattle.vm_tree_model.specs.Node.{Node, IsNode, Names, IsTreeOf}

-- free page s becomes an inner node with the old root as its one child
pub record IsGrowStep (end : ℕ) (old new : ℕ → Node) (root height s : ℕ) : Type 0 where
  pub free : (old s).tag ≡ 0
  pub top : new s ≡ record { tag = 3; level = height + 1; low = 0; high = end; pairs = (0, root) ∷ [] }
  pub others : (x : ℕ) → x ≢ s → new x ≡ old x

module _ {end : ℕ} (old new : ℕ → Node) (root height s : ℕ) (tree : IsTreeOf end old root height)
    (step : IsGrowStep end old new root height s) (some : 1 ≤ end) where
  s_not : (c : ℕ) → IsNode (old c) → c ≢ s
  s_not c is same = omega (arith, step.free, is, ap (λ x. (old x).tag) same)

  abbrev top_pairs : Pairs
  top_pairs = (0, root) ∷ []

  -- the top names the old root alone
  names_top : (x c : ℕ) → Names new s x c → (x ≡ 0) × (c ≡ root)
  names_top x c n =
      let found : lookup_at top_pairs x ≡ Some c = rw step.top at n.1 in
      (grind (arith, nat_tests, found), grind (arith, nat_tests, found))

  top_names : Names new s 0 root
  top_names = rw step.top (refl, refl)

  same_node : (c : ℕ) → c ≢ s → IsNode (old c) → IsNode (new c)
  same_node c ne is = rw (step.others c ne) is

  names_back : (u x c : ℕ) → u ≢ s → Names new u x c → Names old u x c
  names_back u x c ne n = rw (step.others u ne) at n

  c_not : (u x c : ℕ) → u ≢ s → Names new u x c → c ≢ s
  c_not u x c ne n = s_not c (tree.child_is u x c (names_back u x c ne n))

  root_ne : root ≢ s
  root_ne = s_not root tree.root_is

  pub grow_tree : IsTreeOf end new s (height + 1)
  grow_tree = record {
    leaf = λ p tag. elim (cases_eq p s) [
      | inl e ↦ absurd (top_leaf (rw e at tag))
      | inr ne ↦ rw (step.others p ne) (tree.leaf p (rw (step.others p ne) at tag))
    ];
    inner = λ p tag. elim (cases_eq p s) [
      | inl e ↦ rw e (rw step.top (record {
        tag = refl;
        level = omega arith;
        rises = (omega arith, omega (arith, some), tt);
        starts = refl;
      }))
      | inr ne ↦ rw (step.others p ne) (tree.inner p (rw (step.others p ne) at tag))
    ];
    root_is = rw step.top (lit≤ tt, lit≤ tt);
    root_level = rw step.top refl;
    root_low = rw step.top refl;
    root_high = rw step.top refl;
    child_is = λ u x c n. elim (cases_eq u s) [
      | inl e ↦ let t = names_top x c (rw e at n) in rw t.1 (same_node root root_ne tree.root_is)
      | inr ne ↦ same_node c (c_not u x c ne n) (tree.child_is u x c (names_back u x c ne n))
    ];
    child_level = λ u x c n. elim (cases_eq u s) [
      | inl e ↦ let t = names_top x c (rw e at n) in rw (e, t.1) (rw (step.top, step.others root root_ne) (omega (arith, tree.root_level)))
      | inr ne ↦ rw (step.others u ne, step.others c (c_not u x c ne n)) (tree.child_level u x c (names_back u x c ne n))
    ];
    child_low = λ u x c n. elim (cases_eq u s) [
      | inl e ↦ let t = names_top x c (rw e at n) in rw (t.0, t.1) (rw (step.others root root_ne) tree.root_low)
      | inr ne ↦ rw (step.others c (c_not u x c ne n)) (tree.child_low u x c (names_back u x c ne n))
    ];
    child_high = λ u x c n. elim (cases_eq u s) [
      | inl e ↦ let t = names_top x c (rw e at n) in rw (e, t.0, t.1) (rw (step.top, step.others root root_ne) tree.root_high)
      | inr ne ↦ rw (step.others u ne, step.others c (c_not u x c ne n)) (tree.child_high u x c (names_back u x c ne n))
    ];
    once = λ u u' x x' c n n'. elim (cases_eq u s) [
      | inl e ↦ elim (cases_eq u' s) [
        | inl e' ↦ e ∙ sym e'
        | inr ne' ↦ absurd (tree.unnamed u' x' (rw (names_top x c (rw e at n)).1 at (names_back u' x' c ne' n')))
      ]
      | inr ne ↦ elim (cases_eq u' s) [
        | inl e' ↦ absurd (tree.unnamed u x (rw (names_top x' c (rw e' at n')).1 at (names_back u x c ne n)))
        | inr ne' ↦ tree.once u u' x x' c (names_back u x c ne n) (names_back u' x' c ne' n')
      ]
    ];
    unnamed = λ u x n. elim (cases_eq u s) [
      | inl e ↦ root_ne (sym (names_top x s (rw e at n)).1)
      | inr ne ↦ c_not u x s ne n refl
    ];
    named = λ c is ne. elim (cases_eq c root) [
      | inl e ↦ (s, 0, rw e top_names)
      | inr other ↦ let (u, x, n) = tree.named c (rw (step.others c ne) at is) other in
          (u, x, rw (step.others u (s_not u (inner_is u n.0))) n)
    ];
  }
    where
      top_leaf : (new s).tag ≡ 2 → ⊥
      top_leaf tag = omega (arith, ap (λ (x : Node). x.tag) step.top, tag)

      inner_is : (u : ℕ) → (old u).tag ≡ 3 → IsNode (old u)
      inner_is u tag = (omega arith, omega arith)
