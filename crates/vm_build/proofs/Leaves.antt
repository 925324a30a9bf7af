-- The pairs of the leaves that are built, one leaf after another, are the pairs.
use Rattle.std.proofs.Common.{◌≡◌, ℕ, zero, suc, ◌+◌, ◌*◌, ◌≤◌, List, [], ◌∷◌, ◌++◌, length, take, replicate, true}
use Rattle.std.proofs.Common.{false, leb, eqb, slice_index, refl, sym, ap, ◌∙◌, append_assoc, append-nil, take-add}
use Rattle.std.proofs.Common.{take_all, arith}
use Rattle.std.proofs.lemmas.Bool.Decides.{nat_tests}
use Rattle.vm_map.specs.Map.{Pairs}
use Rattle.vm_tree_model.specs.Tree.{leaf_part, leaf_pairs}
use Rattle.vm_build.specs.Levels.{nodes_for, run_of, low_of, high_fence_of, node_page, level_pages}
use Rattle.vm_build.specs.Build.{levels_from, tree_nodes}
use Rattle.vm_build.proofs.NextLevel.{page_up, entries_up, own_pages, pages_up, pages_if}
use Rattle.vm_build.proofs.Sizes.{length-run_of}
use Rattle.vm_build.proofs.Nodes.{pairs_of-words, zero_at}
use Rattle.vm_page.specs.Sizes.{IsSize}
use Rattle.vm_tree_model.specs.Fixed.{fixed}
use Rattle.vm_build.specs.Levels.{fill_of}
use Rattle.vm_build.proofs.Fill.{fill_first, fill_next, fill_all}

module _ (z : ℕ) (size : IsSize z) where
  pub leaf_pairs-append : (a b : List (List ℕ)) → leaf_pairs (fixed z) (a ++ b) ≡ leaf_pairs (fixed z) a ++ leaf_pairs (fixed z) b
  leaf_pairs-append [] b = refl
  leaf_pairs-append (w ∷ ws) b = ap (λ (m : Pairs). leaf_part (fixed z) w ++ m) (leaf_pairs-append ws b)
      ∙ sym (append_assoc (leaf_part (fixed z) w) (leaf_pairs (fixed z) ws) (leaf_pairs (fixed z) b))

  -- the lowest level's nodes have their runs of the pairs, the others none
  part_lowest : (entries : Pairs) (n : ℕ) → leaf_part (fixed z) (node_page z 0 entries n) ≡ run_of z entries n
  part_lowest entries n = pairs_of-words z size 0 (low_of z entries n) (high_fence_of z entries n)
      (run_of z entries n) (length-run_of z size entries n)

  part_above : (level : ℕ) (entries : Pairs) (n : ℕ) → 1 ≤ level → leaf_part (fixed z) (node_page z level entries n) ≡ []
  part_above level entries n up = grind (arith, nat_tests, up)

  pairs_lowest : (entries : Pairs) (n : ℕ) → leaf_pairs (fixed z) (level_pages z 0 entries n) ≡ take (fill_of z * n) entries
  pairs_lowest entries zero = rw (fill_first z size) refl
  pairs_lowest entries (suc n) =
      leaf_pairs-append (level_pages z 0 entries n) (node_page z 0 entries n ∷ [])
      ∙ rw (pairs_lowest entries n, part_lowest entries n, append-nil)
      (sym (take-add (fill_of z * n) (fill_of z) entries) ∙ ap (λ i. take i entries) (sym (fill_next z size n)))

  pairs_level_above : (level : ℕ) (entries : Pairs) (n : ℕ) → 1 ≤ level → leaf_pairs (fixed z) (level_pages z level entries n) ≡ []
  pairs_level_above level entries zero up = refl
  pairs_level_above level entries (suc n) up =
      leaf_pairs-append (level_pages z level entries n) (node_page z level entries n ∷ [])
      ∙ rw (pairs_level_above level entries n up, part_above level entries n up) refl

  pairs_above : (levels level page : ℕ) (entries : Pairs) → 1 ≤ level → leaf_pairs (fixed z) (levels_from z levels level page entries) ≡ []
  pairs_above zero level page entries up = pairs_level_above level entries (nodes_for z (length entries)) up
  pairs_above (suc levels) level page entries above =
      let own = pairs_level_above level entries (nodes_for z (length entries)) above in
      let up = pairs_above levels (level + 1) (page_up z page entries) (entries_up z page entries) (omega arith) in
      elim (leb (nodes_for z (length entries)) 1) as (λ b. leaf_pairs (fixed z) (pages_if z b levels level page entries) ≡ []) [
        | true ↦ leaf_pairs-append (own_pages z level entries) [] ∙ rw own refl
        | false ↦ leaf_pairs-append (own_pages z level entries) (pages_up z levels level page entries) ∙ rw (own, up) refl
      ]

  pairs_own : (entries : Pairs) → leaf_pairs (fixed z) (own_pages z 0 entries) ≡ entries
  pairs_own entries = pairs_lowest entries (nodes_for z (length entries))
      ∙ take_all (fill_of z * nodes_for z (length entries)) entries (fill_all z size (length entries))

  pairs_from : (levels page : ℕ) (entries : Pairs) → leaf_pairs (fixed z) (levels_from z levels 0 page entries) ≡ entries
  pairs_from zero page entries = pairs_own entries
  pairs_from (suc levels) page entries =
      let own = pairs_own entries in
      let up = pairs_above levels 1 (page_up z page entries) (entries_up z page entries) (omega arith) in
      elim (leb (nodes_for z (length entries)) 1) as (λ b. leaf_pairs (fixed z) (pages_if z b levels 0 page entries) ≡ entries) [
        | true ↦ leaf_pairs-append (own_pages z 0 entries) [] ∙ rw own (append-nil entries)
        | false ↦ leaf_pairs-append (own_pages z 0 entries) (pages_up z levels 0 page entries) ∙ rw (own, up) (append-nil entries)
      ]

  pub pairs_built : (pairs : Pairs) → leaf_pairs (fixed z) (tree_nodes z pairs) ≡ pairs
  pairs_built pairs = pairs_from (length pairs) 1 pairs

  -- a page of zeros is no leaf
  part_free : leaf_part (fixed z) (replicate z 0) ≡ []
  part_free = let none : eqb (slice_index (replicate z 0) 0) 2 ≡ false = ap (λ (n : ℕ). eqb n 2) (zero_at z 0) in rw none refl

  pub pairs_free : (n : ℕ) → leaf_pairs (fixed z) (replicate n (replicate z 0)) ≡ []
  pairs_free zero = refl
  pairs_free (suc n) = rw part_free (pairs_free n)
