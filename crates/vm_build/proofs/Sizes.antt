-- How many pages are built, and how long each of them is.
use Rattle.std.proofs.Common.{◌≡◌, ℕ, zero, suc, ◌+◌, ◌-◌, ◌*◌, ◌≤◌, List, [], ◌∷◌, ◌++◌, length, drop, replicate}
use Rattle.std.proofs.Common.{true, false, leb, if◌then◌else◌, refl, ap, ◌∙◌, arith, length-append, length-take}
use Rattle.std.proofs.lemmas.List.{length-replicate, get_or-replicate}
use Rattle.vm_map.specs.Map.{Pairs}
use Rattle.vm_image.specs.File.{HaveWords}
use Rattle.vm_build.specs.Levels.{nodes_for, run_of, pair_words, low_of, node_page, level_pages, entries_above}
use Rattle.vm_build.proofs.NextLevel.{page_up, entries_up, own_pages, pages_up, pages_if}
use Rattle.vm_build.specs.Build.{nodes_from, needed, levels_from, tree_nodes, meta_page, built}
use Rattle.vm_page.specs.Sizes.{IsSize}
use Rattle.vm_build.specs.Levels.{fill_of}
use Rattle.vm_node.proofs.Sizes.{whole}
use Rattle.vm_build.proofs.Fill.{fill_fits}

pub length-pair_words : (pairs : Pairs) → length (pair_words pairs) ≡ 2 * length pairs
length-pair_words [] = refl
length-pair_words (e ∷ es) = omega (arith, length-pair_words es)

module _ (z : ℕ) (size : IsSize z) where
  pub length-run_of : (entries : Pairs) (n : ℕ) → length (run_of z entries n) ≤ fill_of z
  length-run_of entries n = omega (arith, length-take (fill_of z) (drop (fill_of z * n) entries))

  pub length-node_page : (level : ℕ) (entries : Pairs) (n : ℕ) → length (node_page z level entries n) ≡ z
  length-node_page level entries n =
      let run = run_of z entries n in
      omega (
        arith,
        length-run_of entries n,
        fill_fits z size,
        whole z size,
        length-pair_words run,
        length-append (pair_words run) (replicate (z - 8 - 2 * length run) 0),
        length-replicate {A = ℕ}
            (z - 8 - 2 * length run) 0,
      )

  pub length-level_pages : (level : ℕ) (entries : Pairs) (n : ℕ) → length (level_pages z level entries n) ≡ n
  length-level_pages level entries zero = refl
  length-level_pages level entries (suc n) =
      omega (
        arith,
        length-append (level_pages z level entries n) (node_page z level entries n ∷ []),
        length-level_pages level entries n,
      )

  pub length-entries_above : (page : ℕ) (entries : Pairs) (n : ℕ) → length (entries_above z page entries n) ≡ n
  length-entries_above page entries zero = refl
  length-entries_above page entries (suc n) =
      omega (
        arith,
        length-append (entries_above z page entries n) ((low_of z entries n, page + n) ∷ []),
        length-entries_above page entries n,
      )

  pub length-levels_from : (levels level page : ℕ) (entries : Pairs)
      → length (levels_from z levels level page entries) ≡ nodes_from z levels (nodes_for z (length entries))
  length-levels_from zero level page entries = length-level_pages level entries (nodes_for z (length entries))
  length-levels_from (suc levels) level page entries =
      let nodes = nodes_for z (length entries) in
      let own = length-level_pages level entries nodes in
      let up : length (pages_up z levels level page entries) ≡ nodes_from z levels (nodes_for z nodes) =
      length-levels_from levels (level + 1) (page_up z page entries) (entries_up z page entries)
      ∙ ap (λ n. nodes_from z levels (nodes_for z n)) (length-entries_above page entries nodes) in
      elim (leb nodes 1) as (λ b. length (pages_if z b levels level page entries) ≡ nodes
      + (if b then 0 else nodes_from z levels (nodes_for z nodes))) [
        | true ↦ omega (arith, own, length-append (own_pages z level entries) [])
        | false ↦ omega (arith, own, up, length-append (own_pages z level entries) (pages_up z levels level page entries))
      ]

  -- the pages of the tree, and page 0
  pub length-tree_nodes : (pairs : Pairs) → length (tree_nodes z pairs) + 1 ≡ needed z (length pairs)
  length-tree_nodes pairs = omega (arith, length-levels_from (length pairs) 0 1 pairs)

  pub length-built : (pages : ℕ) (pairs : Pairs) → needed z (length pairs) ≤ pages → length (built z pages pairs) ≡ pages
  length-built pages pairs fits =
      let free = pages - needed z (length pairs) in
      let zeros : List ℕ = replicate z 0 in
      omega (arith, length-append (tree_nodes z pairs) (replicate free zeros), length-replicate free zeros, length-tree_nodes pairs)

  -- each page of two lists after each other has z words, where each of the two lists' has
  pub words-append : (a b : List (List ℕ)) → HaveWords z a → HaveWords z b → HaveWords z (a ++ b)
  words-append [] b of_a of_b p lt = of_b p lt
  words-append (w ∷ ws) b of_a of_b zero lt = of_a 0 (omega arith)
  words-append (w ∷ ws) b of_a of_b (suc p) lt = words-append ws b (λ i less. of_a (suc i) (omega arith)) of_b p (omega arith)

  words-one : (w : List ℕ) → length w ≡ z → HaveWords z (w ∷ [])
  words-one w long zero lt = long
  words-one w long (suc p) lt = absurd (omega (arith, lt))

  words-level_pages : (level : ℕ) (entries : Pairs) (n : ℕ) → HaveWords z (level_pages z level entries n)
  words-level_pages level entries zero = λ p lt. absurd (omega (arith, lt))
  words-level_pages level entries (suc n) =
      words-append (level_pages z level entries n) (node_page z level entries n ∷ [])
      (words-level_pages level entries n) (words-one _ (length-node_page level entries n))

  words-levels_from : (levels level page : ℕ) (entries : Pairs) → HaveWords z (levels_from z levels level page entries)
  words-levels_from zero level page entries = words-level_pages level entries (nodes_for z (length entries))
  words-levels_from (suc levels) level page entries =
      let own = words-level_pages level entries (nodes_for z (length entries)) in
      let up = words-levels_from levels (level + 1) (page_up z page entries) (entries_up z page entries) in
      elim (leb (nodes_for z (length entries)) 1) as (λ b. HaveWords z (pages_if z b levels level page entries)) [
        | true ↦ words-append (own_pages z level entries) [] own (λ p lt. absurd (omega (arith, lt)))
        | false ↦ words-append (own_pages z level entries) (pages_up z levels level page entries) own up
      ]

  pub words-tree_nodes : (pairs : Pairs) → HaveWords z (tree_nodes z pairs)
  words-tree_nodes pairs = words-levels_from (length pairs) 0 1 pairs

  words-free : (n : ℕ) → HaveWords z (replicate n (replicate z 0))
  words-free n p lt =
      let zeros : List ℕ = replicate z 0 in
      ap length (get_or-replicate n p zeros [] (omega (arith, lt, length-replicate n zeros))) ∙ length-replicate z 0

  -- page 0 has three words, then zeros
  pub length-meta_page : (nodes : List (List ℕ)) → length (meta_page z nodes) ≡ z
  length-meta_page nodes = omega (arith, whole z size, length-replicate {A = ℕ} (z - 3) 0)

  pub words-built : (pages : ℕ) (pairs : Pairs) → HaveWords z (built z pages pairs)
  words-built pages pairs zero lt = length-meta_page (tree_nodes z pairs)
  words-built pages pairs (suc p) lt =
      let free = pages - needed z (length pairs) in
      words-append (tree_nodes z pairs) (replicate free (replicate z 0)) (words-tree_nodes pairs) (words-free free) p (omega (arith, lt))
