-- A leaf is replaced by a leaf with the same fences: the nodes stay a tree.
use Rattle.std.proofs.Common.{◌≡◌, ℕ, ◌≢◌, inl, inr, refl, sym, ap, ◌∙◌, subst, arith}
use Rattle.std.proofs.lemmas.Bool.{cases_eq}
use Rattle.vm_map.specs.Map.{next_key}
use Rattle.vm_tree_model.specs.Node.{Node, IsLeafNode, IsNode, Names, IsTreeOf}

-- only node p changes, from a leaf to a leaf with the same fences
pub record IsLeafStep (old new : ℕ → Node) (p : ℕ) : Type 0 where
  pub was : (old p).tag ≡ 2
  pub leaf : IsLeafNode (new p)
  pub low : (new p).low ≡ (old p).low
  pub high : (new p).high ≡ (old p).high
  pub others : (q : ℕ) → q ≢ p → new q ≡ old q

-- the same tag, level and fences
pub record IsSameSpan (a b : Node) : Type 0 where
  pub tag : b.tag ≡ a.tag
  pub level : b.level ≡ a.level
  pub low : b.low ≡ a.low
  pub high : b.high ≡ a.high

module _ {end : ℕ} (old new : ℕ → Node) (root height p : ℕ) (tree : IsTreeOf end old root height) (step : IsLeafStep old new p) where
  span : (q : ℕ) → IsSameSpan (old q) (new q)
  span q = elim (cases_eq q p) [
    | inl same ↦ subst (λ x. IsSameSpan (old x) (new x)) (sym same) (record {
      tag = step.leaf.tag ∙ sym step.was;
      level = step.leaf.level ∙ sym (tree.leaf p step.was).level;
      low = step.low;
      high = step.high;
    })
    | inr other ↦ subst (λ x. IsSameSpan (old q) x) (sym (step.others q other)) (record {
      tag = refl;
      level = refl;
      low = refl;
      high = refl;
    })
  ]

  -- an inner node is not the leaf
  inner_same : (q : ℕ) → (new q).tag ≡ 3 → new q ≡ old q
  inner_same q tag = step.others q (λ same. omega (arith, rw same at tag, step.leaf.tag))

  names_back : (q k c : ℕ) → Names new q k c → Names old q k c
  names_back q k c n = rw (inner_same q n.0) at n

  names_to : (q k c : ℕ) → Names old q k c → Names new q k c
  names_to q k c n = let same = inner_same q ((span q).tag ∙ n.0) in rw same n

  node_same : (c : ℕ) → IsNode (old c) → IsNode (new c)
  node_same c is = rw (span c).tag is

  pub leaf_step_tree : IsTreeOf end new root height
  leaf_step_tree = record {
    leaf = λ q tag. elim (cases_eq q p) [
      | inl same ↦ rw same step.leaf
      | inr other ↦ let e = step.others q other in rw e (tree.leaf q (rw e at tag))
    ];
    inner = λ q tag. let e = inner_same q tag in rw e (tree.inner q (rw e at tag));
    root_is = node_same root tree.root_is;
    root_level = (span root).level ∙ tree.root_level;
    root_low = (span root).low ∙ tree.root_low;
    root_high = (span root).high ∙ tree.root_high;
    child_is = λ q k c n. node_same c (tree.child_is q k c (names_back q k c n));
    child_level = λ q k c n. omega (arith, (span c).level, (span q).level, tree.child_level q k c (names_back q k c n));
    child_low = λ q k c n. (span c).low ∙ tree.child_low q k c (names_back q k c n);
    child_high = λ q k c n. (span c).high ∙ tree.child_high q k c (names_back q k c n)
        ∙ ap (λ (x : Node). next_key x.pairs x.high k) (sym (inner_same q n.0));
    once = λ q q' k k' c n n'. tree.once q q' k k' c (names_back q k c n) (names_back q' k' c n');
    unnamed = λ q k n. tree.unnamed q k (names_back q k root n);
    named = λ c is other. let (q, k, n) = tree.named c (rw (← (span c).tag) is) other in (q, k, names_to q k c n);
  }
