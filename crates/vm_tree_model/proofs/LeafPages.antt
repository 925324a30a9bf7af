-- One leaf's page is replaced by a leaf with the same fences.
use Rattle.std.proofs.Common.{◌≡◌, ℕ, ◌<◌, ◌≢◌, inl, inr, List, [], set, sym, ap, ◌∙◌, arith, length-set, get_or-set_same, get_or-set_other}
use Rattle.std.proofs.lemmas.Bool.{cases_eq, cases_lt}
use Rattle.vm_tree_model.specs.Layout.{Layout, IsLayout}
use Rattle.vm_map.specs.Map.{Pairs, lookup_at, put_pair, del_pair, Rises}
use Rattle.vm_tree_model.specs.Node.{Covers}
use Rattle.vm_tree_model.specs.Page.{pairs_of, node_of, IsLeaf}
use Rattle.vm_tree_model.specs.Tree.{page_at, node_at, IsTree, IsLeafAt, map_of}
use Rattle.vm_map.proofs.MapLemmas.{map_ext, lookup-above, lookup-put_same, lookup-put_other, lookup-del_same}
use Rattle.vm_map.proofs.MapLemmas.{lookup-del_other, Rises-put, Rises-del}
use Rattle.vm_tree_model.proofs.LeafLaw.{IsLeafStep, leaf_step_tree}
use Rattle.vm_tree_model.proofs.Laws.{parted_leaves, lookup-map_of, Rises-map_of}

-- page p is a leaf, and becomes a leaf with the same fences
pub record IsLeafReplaced (L : Layout) (pages : List (List ℕ)) (p : ℕ) (words : List ℕ) : Type 0 where
  pub at : IsLeafAt L pages p
  pub leaf : IsLeaf L words
  pub low : (node_of L words).low ≡ (node_at L pages p).low
  pub high : (node_of L words).high ≡ (node_at L pages p).high

module _ (L : Layout) (laws : IsLayout L) (pages : List (List ℕ)) (tree : IsTree L pages) (p : ℕ) (words : List ℕ)
    (step : IsLeafReplaced L pages p words) where
  here : page_at (set pages p words) p ≡ words
  here = get_or-set_same pages p words [] step.at.1

  there : (q : ℕ) → q ≢ p → page_at (set pages p words) q ≡ page_at pages q
  there q ne = get_or-set_other pages p q words [] ne

  node_step : IsLeafStep (node_at L pages) (node_at L (set pages p words)) p
  node_step = record {
    was = step.at.2;
    leaf = rw (node_at, here) step.leaf.node;
    low = ap (λ w. (node_of L w).low) here ∙ step.low;
    high = ap (λ w. (node_of L w).high) here ∙ step.high;
    others = λ q ne. ap (node_of L) (there q ne);
  }

  page_zero : page_at (set pages p words) 0 ≡ page_at pages 0
  page_zero = there 0 (λ same. omega (arith, step.at.0))

  pub replaced_tree : IsTree L (set pages p words)
  replaced_tree = record {
    meta = rw (page_zero, length-set) tree.meta;
    kind = λ q ge lt. elim (cases_eq q p) [
      | inl same ↦ inr (inl (rw same (rw here step.leaf)))
      | inr other ↦ rw (there q other) (tree.kind q ge (rw length-set at lt))
    ];
    tree = rw page_zero (leaf_step_tree (node_at L pages) (node_at L (set pages p words)) _ _ p tree.tree node_step);
  }

  -- the leaves and their fences stay
  leaf_stays : (q : ℕ) → IsLeafAt L pages q → IsLeafAt L (set pages p words) q
  leaf_stays q at = (
    at.0,
    rw length-set at.1,
    elim (cases_eq q p) [
      | inl same ↦ rw same (rw (node_at, here) step.leaf.node.tag)
      | inr other ↦ rw (node_at, there q other) at.2
    ],
  )

  covers_stays : (q key : ℕ) → Covers (node_at L pages q) key → Covers (node_at L (set pages p words) q) key
  covers_stays q key covers = elim (cases_eq q p) [
    | inl same ↦ rw same (rw (node_at, here) (omega (arith, step.low, rw same at covers.0), omega (arith, step.high, rw same at covers.1)))
    | inr other ↦ rw (node_at, there q other) covers
  ]

  -- the map after is the map that agrees with the new leaf in its fences, and elsewhere with the old map
  pub replaced_map : (after : Pairs) → Rises 0 L.key_end after
      → ((q : ℕ) → Covers (node_at L pages p) q → lookup_at after q ≡ lookup_at (pairs_of L words) q)
      → ((q : ℕ) → (Covers (node_at L pages p) q → ⊥) → lookup_at after q ≡ lookup_at (map_of L pages) q)
      → map_of L (set pages p words) ≡ after
  replaced_map after rises within outside = map_ext _ _ 0 L.key_end (Rises-map_of L laws (set pages p words) replaced_tree) rises each
    where
      at_leaf : (key q : ℕ) → IsLeafAt L pages q → Covers (node_at L pages q) key
          → lookup_at (map_of L (set pages p words)) key ≡ lookup_at after key
      at_leaf key q at covers =
          let now = lookup-map_of L laws (set pages p words) replaced_tree q key (leaf_stays q at) (covers_stays q key covers) in
          elim (cases_eq q p) [
            | inl same ↦ now ∙ rw same (ap (λ (w : List ℕ). lookup_at (L.node_of w).pairs key) here ∙ sym (within key (rw same at covers)))
            | inr other ↦ now ∙ ap (λ (w : List ℕ). lookup_at (L.node_of w).pairs key) (there q other)
                ∙ (sym (lookup-map_of L laws pages tree q key at covers)
                ∙ sym (outside key (λ by_p.
                other ((parted_leaves L laws pages tree).one key q p at covers step.at by_p))))
          ]

      each : (key : ℕ) → lookup_at (map_of L (set pages p words)) key ≡ lookup_at after key
      each key = elim (cases_lt key L.key_end) [
        | inl lt ↦ let (q, at, covers) = (parted_leaves L laws pages tree).some key lt in at_leaf key q at covers
        | inr past ↦ lookup-above _ 0 L.key_end key (Rises-map_of L laws (set pages p words) replaced_tree) past
            ∙ sym (lookup-above _ 0 L.key_end key rises past)
      ]

  -- a put into the leaf that covers the key is a put into the map
  pub put_map : (k v : ℕ) → Covers (node_at L pages p) k → k < L.key_end
      → pairs_of L words ≡ put_pair (node_at L pages p).pairs k v → map_of L (set pages p words) ≡ put_pair
      (map_of L pages) k v
  put_map k v covers lt is = replaced_map _ (Rises-put _ _ _ k v (Rises-map_of L laws pages tree) (omega arith) lt)
      (λ q by_p. rw is (elim (cases_eq q k) [
        | inl same ↦ rw same (lookup-put_same _ k v ∙ sym (lookup-put_same _ k v))
        | inr other ↦ lookup-put_other _ k v q other ∙ lookup-map_of L laws pages tree p q step.at by_p
            ∙ sym (lookup-put_other _ k v q other)
      ]))
      (λ q not_p. lookup-put_other _ k v q (λ same. not_p (rw same covers)))

  pub del_map : (k : ℕ) → Covers (node_at L pages p) k → pairs_of L words ≡ del_pair (node_at L pages p).pairs k
      → map_of L (set pages p words) ≡ del_pair (map_of L pages) k
  del_map k covers is = replaced_map _ (Rises-del _ _ _ k (Rises-map_of L laws pages tree))
      (λ q by_p. rw is (elim (cases_eq q k) [
        | inl same ↦ rw same (lookup-del_same _ _ _ k (Rises-map_of L laws pages tree)
            ∙ sym (lookup-del_same _ _ _ k (tree.tree.leaf p step.at.2).rises))
        | inr other ↦ lookup-del_other _ k q other ∙ lookup-map_of L laws pages tree p q step.at by_p ∙ sym (lookup-del_other _ k q other)
      ]))
      (λ q not_p. lookup-del_other _ k q (λ same. not_p (rw same covers)))
