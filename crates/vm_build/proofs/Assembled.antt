-- The image put together: a page that is kept for page 0, the pages of the tree, page 0, free pages.
use Rattle.std.proofs.Common.{◌≡◌, ℕ, zero, suc, ◌+◌, ◌-◌, ◌≤◌, List, [], ◌∷◌, ◌++◌, length, take, drop, replicate}
use Rattle.std.proofs.Common.{set, refl, sym, subst, ◌∙◌, ap, arith}
use Rattle.std.proofs.lemmas.List.{append_assoc, append-nil, take_all, replicate_more}
use Rattle.vm_map.specs.Map.{Pairs}
use Rattle.vm_build.specs.Levels.{nodes_for}
use Rattle.vm_build.specs.Build.{nodes_from, needed, tree_nodes, meta_page, built}
use Rattle.vm_build.proofs.Sizes.{length-tree_nodes}
use Rattle.vm_page.specs.Sizes.{IsSize}
use Rattle.vm_node.proofs.Sizes.{whole}

module _ (z : ℕ) (size : IsSize z) where
  -- every tree has a node
  pub tree_some : (pairs : Pairs) → 1 ≤ length (tree_nodes z pairs)
  tree_some pairs = omega (arith, length-tree_nodes z size pairs, at_least (length pairs) (nodes_for z (length pairs)))
    where
      at_least : (levels nodes : ℕ) → nodes ≤ nodes_from z levels nodes
      at_least zero nodes = omega arith
      at_least (suc levels) nodes = omega arith

  module _ (pairs : Pairs) (first : List ℕ) (made : List (List ℕ)) (is : made ≡ first ∷ tree_nodes z pairs) where
    -- the pages behind page 0 are the tree's
    pub behind_first : take (length made - 1) (drop 1 made) ≡ tree_nodes z pairs
    behind_first = rw is (take_all (suc (length (tree_nodes z pairs)) - 1) (tree_nodes z pairs) (omega arith))

    -- page 0 is written over the first
    pub first_set : (meta : List ℕ) (tree : List (List ℕ)) → meta ≡ meta_page z tree → tree ≡ tree_nodes z pairs
        → set made 0 meta ≡ meta_page z (tree_nodes z pairs) ∷ tree_nodes z pairs
    first_set meta tree over all = rw (is, over, all) refl

  -- without a free page
  pub built_least : (pairs : Pairs) (made : List (List ℕ)) (n : ℕ)
      → made ≡ meta_page z (tree_nodes z pairs) ∷ tree_nodes z pairs → n ≡ length made → made ≡ built z n pairs
  built_least pairs made n is long =
      let none : n - needed z (length pairs) ≡ 0 = rw (long, is) (omega (arith, length-tree_nodes z size pairs)) in
      is ∙ rw none (ap (λ l. meta_page z (tree_nodes z pairs) ∷ l) (sym (append-nil (tree_nodes z pairs))))

  -- with one free page more
  pub built_more : (pairs : Pairs) (made more : List (List ℕ)) (n : ℕ) → made ≡ built z n pairs
      → needed z (length pairs) ≤ n → more ≡ made ++ replicate z 0 ∷ []
      → more ≡ built z (n + 1) pairs
  built_more pairs made more n is fits one =
      let free = n - needed z (length pairs) in
      let next : n + 1 - needed z (length pairs) ≡ free + 1 = omega (arith, fits) in
      one ∙ ap (λ l. l ++ replicate z 0 ∷ []) is ∙ go free (n + 1 - needed z (length pairs)) next
    where
      go : (free less : ℕ) → less ≡ free + 1
          → (meta_page z (tree_nodes z pairs) ∷ tree_nodes z pairs ++ replicate free (replicate z 0)) ++ replicate z 0 ∷ []
          ≡ meta_page z (tree_nodes z pairs) ∷ tree_nodes z pairs ++ replicate less (replicate z 0)
      go free less is =
          let page : List ℕ = replicate z 0 in
          let all : (tree_nodes z pairs ++ replicate free page) ++ page ∷ [] ≡ tree_nodes z pairs ++ replicate (free + 1) page =
          append_assoc (tree_nodes z pairs) (replicate free page) (page ∷ []) ∙ ap (λ l. tree_nodes z pairs ++ l)
          (replicate_more free page) in
          rw is (ap (λ l. meta_page z (tree_nodes z pairs) ∷ l) all)

  -- page 0 of three words, written over zeros
  pub meta_made : (magic root level : ℕ) → set (set (set (replicate z 0) 0 magic) 1 root) 2 level ≡ magic ∷ root
      ∷ level ∷ replicate (z - 3) 0
  meta_made magic root level =
      let long : z ≡ suc (suc (suc (z - 3))) = omega (arith, whole z size) in
      subst (λ n. set (set (set (replicate n 0) 0 magic) 1 root) 2 level ≡ magic ∷ root ∷ level ∷ replicate (z - 3) 0) (sym long) refl
