-- What is built of rising pairs is a tree, and its map is the pairs.
use Rattle.std.proofs.Common.{◌≡◌, ℕ, zero, suc, ◌+◌, ◌-◌, ◌<◌, ◌≤◌, ◌⊎◌, inl, inr, List, [], ◌++◌, length, replicate}
use Rattle.std.proofs.Common.{slice_index, refl, sym, ap, ◌∙◌, subst₂, append-nil, zero-add, arith}
use Rattle.std.proofs.lemmas.Bool.{cases_lt, cases_eq}
use Rattle.std.proofs.lemmas.List.{get_or_append_left, get_or-append_right, get_or-replicate, get_or_past, get_or-drop, length-replicate}
use Rattle.vm_map.specs.Keys.{KEY_END}
use Rattle.vm_map.specs.Map.{Pairs, Rises, gather}
use Rattle.vm_map.proofs.MapLemmas.{gather_rises}
use Rattle.vm_tree_model.specs.Node.{IsNode, IsTreeOf}
use Rattle.vm_tree_model.specs.Page.{node_of, IsFree, IsLeaf, IsInner, IsMeta, IsClean}
use Rattle.vm_tree_model.specs.Tree.{page_at, node_at, IsTree, leaf_pairs, map_of}
use Rattle.vm_build.specs.Levels.{node_page}
use Rattle.vm_build.specs.Build.{needed, tree_nodes, meta_page, built}
use Rattle.vm_build.proofs.Sizes.{length-meta_page, length-node_page, length-tree_nodes, length-built}
use Rattle.vm_build.proofs.Nodes.{node_is, node_clean, zero_at}
use Rattle.vm_build.proofs.LevelTree.{IsAt, AreLevels, rises_at, is_node, levels_tree}
use Rattle.vm_build.proofs.Climb.{first_of, entries_of, count_of, height_of, first_next, entries_next, first_from}
use Rattle.vm_build.proofs.Climb.{page_is, page_of, one_root, ends_last}
use Rattle.vm_build.proofs.Leaves.{leaf_pairs-append, pairs_built, pairs_free}
use Rattle.vm_page.specs.Sizes.{IsSize}
use Rattle.vm_tree_model.specs.Fixed.{fixed}
use Rattle.vm_tree_model.proofs.FixedLaws.{sized_layout}

module _ (z : ℕ) (size : IsSize z) where
  module _ (pages : ℕ) (pairs : Pairs) where
    abbrev image : List (List ℕ)
    image = built z pages pairs

    abbrev tree : List (List ℕ)
    tree = tree_nodes z pairs

    abbrev height : ℕ
    height = height_of z (length pairs) 1 pairs

    abbrev first : ℕ → ℕ
    first l = first_of z 1 pairs l

    abbrev entries : ℕ → Pairs
    entries l = entries_of z 1 pairs l

    abbrev free : List (List ℕ)
    free = replicate (pages - needed z (length pairs)) (replicate z 0)

    -- the pages behind page 0 are those of the tree, then free ones
    in_tree : (x : ℕ) → x < length tree → page_at image (suc x) ≡ page_at tree x
    in_tree x lt = get_or_append_left tree free [] x lt

    zeros_at : (n p : ℕ) → (page_at (replicate n (replicate z 0)) p ≡ replicate z 0) ⊎ (page_at (replicate n (replicate z 0)) p ≡ [])
    zeros_at zero p = inr refl
    zeros_at (suc n) zero = inl refl
    zeros_at (suc n) (suc p) = zeros_at n p

    past_tree : (x : ℕ) → length tree ≤ x → page_at image (suc x) ≡ page_at free (x - length tree)
    past_tree x past = get_or-append_right tree free (length tree) x [] refl past

    no_node : (x : ℕ) → length tree ≤ x → (node_at (fixed z) image (suc x)).tag ≡ 0
    no_node x past = ap (λ (w : List ℕ). slice_index w 0) (past_tree x past)
        ∙ tag (zeros_at (pages - needed z (length pairs)) (x - length tree))
      where
        tag : {w : List ℕ} → (w ≡ replicate z 0) ⊎ (w ≡ []) → slice_index w 0 ≡ 0
        tag (inl zeros) = ap (λ (w : List ℕ). slice_index w 0) zeros ∙ zero_at z 0
        tag (inr none) = ap (λ (w : List ℕ). slice_index w 0) none

    -- node n of level l
    node_page_is : (l n x : ℕ) → l ≤ height → n < count_of z 1 pairs l → 1 + x ≡ first l + n → (x < length tree)
        × (page_at tree x ≡ node_page z l (entries l) n)
    node_page_is l n x le lt at =
        let is : page_at tree x ≡ node_page z l (entries l) n = page_is z size (length pairs) 0 1 pairs l n x le lt at
        ∙ ap (λ m. node_page z m (entries l) n) (zero-add l) in
        let long = length-node_page z size l (entries l) n in
        elim (cases_lt x (length tree)) [
          | inl within ↦ (within, is)
          | inr past ↦ absurd (omega (arith, long, ap length (sym (get_or_past tree x [] past) ∙ is)))
        ]

    page_at_place : (l p n : ℕ) → l ≤ height → IsAt z (first l) (entries l) p n → page_at image p ≡ node_page z l (entries l) n
    page_at_place l zero n le at = absurd (omega (arith, at.page, first_from z size 1 pairs l))
    page_at_place l (suc x) n le at = let is = node_page_is l n x le at.within (omega (arith, at.page)) in in_tree x is.0 ∙ is.1

    module _ (rises : Rises 0 KEY_END pairs) where
      place_of : (p : ℕ) → IsNode (node_at (fixed z) image p) → (l : ℕ) × (n : ℕ) × (l ≤ height) × IsAt z (first l) (entries l) p n
      place_of zero is = absurd ((sized_layout z size).meta_tag (page_at image 0) refl is)
      place_of (suc x) is = elim (cases_lt x (length tree)) [
        | inl within ↦ let (l, n, le, lt, at) = page_of z size (length pairs) 0 1 pairs x within in
            (l, n, le, record { within = lt; page = omega (arith, at) })
        | inr past ↦ absurd (omega (arith, is, no_node x past))
      ]

      levels : AreLevels z (node_at (fixed z) image) first entries height
      levels = record {
        rises = rises;
        next = λ l lt. first_next z size 1 pairs l;
        above = λ l lt. entries_next z size 1 pairs l;
        top = one_root z size (length pairs) 1 pairs (omega arith);
        nodes = λ l p n le at. ap (node_of (fixed z)) (page_at_place l p n le at) ∙ node_is z size l (entries l) n;
        only = place_of;
      }

      built_tree : IsTreeOf KEY_END (node_at (fixed z) image) (first height) height
      built_tree = levels_tree z size (node_at (fixed z) image) first entries height levels

      -- the root is the last page of the tree
      root_is : length tree ≡ first height
      root_is = omega (arith, ends_last z size (length pairs) 0 1 pairs, levels.top)

      height_is : slice_index (meta_page z tree) 2 ≡ height
      height_is =
          let last = node_page_is height 0 (length tree - 1) (omega arith) (omega (arith, levels.top))
          (omega (arith, root_is, first_from z size 1 pairs height)) in
          ap (λ (w : List ℕ). slice_index w 5) last.1

      meta_rest : (i : ℕ) → 3 ≤ i → slice_index (meta_page z tree) i ≡ 0
      meta_rest i past = let spot : i ≡ 3 + (i - 3) = omega (arith, past) in ap (slice_index (meta_page z tree)) spot
          ∙ sym (get_or-drop 3 (meta_page z tree) (i - 3) 0) ∙ zero_at (z - 3) (i - 3)

      -- a clean page with a node's tag is a leaf or an inner node
      kind_of : (p : ℕ) → IsClean (fixed z) (page_at image p) → IsNode (node_at (fixed z) image p)
          → IsLeaf (fixed z) (page_at image p) ⊎ IsInner (fixed z) (page_at image p)
      kind_of p clean is = elim (cases_eq (node_at (fixed z) image p).tag 2) [
        | inl leaf ↦ inl (record { clean = clean; node = built_tree.leaf p leaf })
        | inr other ↦ inr (record { clean = clean; node = built_tree.inner p (omega (arith, is, other)) })
      ]

      module _ (fits : needed z (length pairs) ≤ pages) where
        meta_is : IsMeta (fixed z) (length image) (meta_page z tree)
        meta_is = record {
          length = length-meta_page z size tree;
          magic = refl;
          root_low = omega (arith, root_is, first_from z size 1 pairs height);
          root_high = omega (arith, length-tree_nodes z size pairs, length-built z size pages pairs fits);
          rest = meta_rest;
        }

        free_is : (x : ℕ) → length tree ≤ x → suc x < length image → IsFree (fixed z) (page_at image (suc x))
        free_is x past lt =
            let zeros : List ℕ = replicate z 0 in
            let within : x - length tree < pages - needed z (length pairs) =
            omega (arith, lt, past, length-tree_nodes z size pairs, length-built z size pages pairs fits) in
            rw (
              past_tree x past,
              get_or-replicate (pages - needed z (length pairs)) (x - length tree) zeros []
                  within,
            ) (record { length = length-replicate z 0; zero = zero_at z })

        kind_is : (p : ℕ) → 1 ≤ p → p < length image → IsFree (fixed z) (page_at image p)
            ⊎ IsLeaf (fixed z) (page_at image p) ⊎ IsInner (fixed z) (page_at image p)
        kind_is zero ge lt = absurd (omega (arith, ge))
        kind_is (suc x) ge lt = elim (cases_lt x (length tree)) [
          | inl within ↦
              let (l, n, le, n_lt, page) = page_of z size (length pairs) 0 1 pairs x within in
              let at : IsAt z (first l) (entries l) (suc x) n = record { within = n_lt; page = omega (arith, page) } in
              let clean = node_clean z size l (entries l) n (rises_at z size (node_at (fixed z) image) first entries height levels l le) in
              let is = is_node z size (node_at (fixed z) image) first entries height levels l (suc x) n le at in
              inr (kind_of (suc x) (rw (page_at_place l (suc x) n le at) clean) is)
          | inr past ↦ inl (free_is x past lt)
        ]

        pub built_is_tree : IsTree (fixed z) (built z pages pairs)
        built_is_tree = record {
          meta = meta_is;
          kind = kind_is;
          tree = subst₂ (IsTreeOf KEY_END (node_at (fixed z) image)) (sym root_is) (sym height_is) built_tree;
        }

      pub built_map : map_of (fixed z) (built z pages pairs) ≡ pairs
      built_map =
          let leaves : leaf_pairs (fixed z) (tree ++ free) ≡ pairs = leaf_pairs-append z size tree free
          ∙ rw (pairs_built z size pairs, pairs_free z size (pages - needed z (length pairs)))
          (append-nil pairs) in
          ap gather leaves ∙ gather_rises pairs 0 KEY_END rises
