-- The words of a node that is built, as a node: its tag, level, fences and pairs; and they are clean.
use Rattle.std.proofs.Common.{◌≡◌, ℕ, zero, suc, ◌+◌, ◌-◌, ◌*◌, ◌<◌, ◌≤◌, ◌⊎◌, inl, inr, List, [], ◌∷◌, ◌++◌, length}
use Rattle.std.proofs.Common.{take, replicate, get_or, slice_index, min, true, false, ltb, Option, Some, None}
use Rattle.std.proofs.Common.{unwrap_or, ◌==◌, if◌then◌else◌, refl, sym, ap, ◌∙◌, arith}
use Rattle.std.proofs.lemmas.Bool.{cases_lt}
use Rattle.std.proofs.lemmas.Bool.Decides.{nat_tests}
use Rattle.std.proofs.lemmas.List.{get_or-append-add, get_or-drop}
use Rattle.vm_map.specs.Keys.{KEY_END}
use Rattle.vm_map.specs.Map.{Pairs, Rises}
use Rattle.vm_tree_model.specs.Node.{Node}
use Rattle.vm_tree_model.specs.Page.{node_of, IsClean}
use Rattle.vm_build.specs.Levels.{nodes_for, run_of, pair_words, low_of, high_fence_of, node_words, node_page}
use Rattle.vm_build.proofs.Sizes.{length-pair_words, length-run_of, length-node_page}
use Rattle.vm_build.proofs.Runs.{fence_of}
use Rattle.vm_build.proofs.Above.{low_below}
use Rattle.vm_page.specs.Sizes.{IsSize}
use Rattle.vm_tree_model.specs.Fixed.{capacity, fixed, fixed_pairs, pairs_in}
use Rattle.vm_build.specs.Levels.{fill_of}
use Rattle.vm_tree_model.proofs.FixedLaws.{form_from}
use Rattle.vm_tree_model.proofs.WordTests.{zeros_past-from}
use Rattle.vm_build.proofs.Fill.{fill_fits}

take_front : (pairs : Pairs) (rest : Pairs) → take (length pairs) (pairs ++ rest) ≡ pairs
take_front [] rest = refl
take_front (e ∷ es) rest = ap (λ (m : Pairs). e ∷ m) (take_front es rest)

pairs_in-words : (pairs : Pairs) (rest : List ℕ) → pairs_in (pair_words pairs ++ rest) ≡ pairs ++ pairs_in rest
pairs_in-words [] rest = refl
pairs_in-words (e ∷ es) rest = ap (λ (m : Pairs). e ∷ m) (pairs_in-words es rest)

pub zero_at : (n i : ℕ) → slice_index (replicate n 0) i ≡ 0
zero_at zero i = refl
zero_at (suc n) zero = refl
zero_at (suc n) (suc i) = zero_at n i

module _ (z : ℕ) where
  -- node n of a level with these entries
  abbrev pub built_node : ℕ → Pairs → ℕ → Node
  built_node level entries n = record {
    tag = if level == 0 then 2 else 3;
    level = level;
    low = low_of z entries n;
    high = fence_of z entries n;
    pairs = run_of z entries n;
  }

module _ (z : ℕ) (size : IsSize z) where
  pub tag_above : (level : ℕ) (entries : Pairs) (n : ℕ) → (built_node z (suc level) entries n).tag ≡ 3
  tag_above level entries n = grind (arith, nat_tests)

  pub pairs_of-words : (level low : ℕ) (high : Option ℕ) (pairs : Pairs) → length pairs ≤ fill_of z
      → fixed_pairs z (node_words z level low high pairs) ≡ pairs
  pairs_of-words level low high pairs few =
      let count : min (length pairs) (capacity z) ≡ length pairs = omega (arith, few, fill_fits z size) in
      rw (count, pairs_in-words pairs (replicate (z - 8 - 2 * length pairs) 0)) (take_front pairs _)

  node_of-words : (level low : ℕ) (high : Option ℕ) (pairs : Pairs) → length pairs ≤ fill_of z
      → node_of (fixed z) (node_words z level low high pairs) ≡ record {
        tag = if level == 0 then 2 else 3;
        level = level;
        low = low;
        high = unwrap_or high KEY_END;
        pairs = pairs;
      }
  node_of-words level low None pairs few = rw (pairs_of-words level low None pairs few) refl
  node_of-words level low (Some high) pairs few = rw (pairs_of-words level low (Some high) pairs few) refl

  pub node_is : (level : ℕ) (entries : Pairs) (n : ℕ) → node_of (fixed z) (node_page z level entries n) ≡ built_node z level entries n
  node_is level entries n = node_of-words level (low_of z entries n) (high_fence_of z entries n) (run_of z entries n)
      (length-run_of z size entries n)

  fence_is : (level low : ℕ) (high : Option ℕ) (pairs : Pairs) → unwrap_or high 0 < KEY_END
      → let words = node_words z level low high pairs in ((get_or words 4 0 ≡ 0) × (get_or words 3 0 < KEY_END))
      ⊎ ((get_or words 4 0 ≡ 1) × (get_or words 3 0 ≡ 0))
  fence_is level low None pairs lt = inr (refl, refl)
  fence_is level low (Some high) pairs lt = inl (refl, lt)

  rest_is : (level low : ℕ) (high : Option ℕ) (pairs : Pairs) (i : ℕ) → 8 + 2 * length pairs ≤ i
      → get_or (node_words z level low high pairs) i 0 ≡ 0
  rest_is level low high pairs i past =
      let words = pair_words pairs in
      let zeros = z - 8 - 2 * length pairs in
      let past_words = length words + (i - (8 + 2 * length pairs)) in
      let spot : i ≡ 8 + past_words = omega (arith, past, length-pair_words pairs) in
      ap (slice_index (node_words z level low high pairs)) spot ∙ sym (get_or-drop 8 (node_words z level low high pairs) past_words 0)
      ∙ get_or-append-add words (replicate zeros 0) (i - (8 + 2 * length pairs)) 0 ∙ zero_at zeros (i - (8 + 2 * length pairs))

  pub node_clean : (level : ℕ) (entries : Pairs) (n : ℕ) → Rises 0 KEY_END entries → IsClean (fixed z) (node_page z level entries n)
  node_clean level entries n rises = form_from z (node_page z level entries n) (record {
    length = length-node_page z size level entries n;
    count = omega (arith, length-run_of z size entries n, fill_fits z size);
    fence = fence_is level (low_of z entries n) (high_fence_of z entries n) (run_of z entries n)
        (elim (cases_lt (n + 1) (nodes_for z (length entries))) [
          | inl more ↦ let test : ltb (n + 1) (nodes_for z (length entries)) ≡ true = grind (arith, nat_tests, more) in
              rw test (low_below z size 0 entries rises (n + 1) more)
          | inr last ↦ let test : ltb (n + 1) (nodes_for z (length entries)) ≡ false =
              grind (arith, nat_tests, last) in rw test (omega arith)
        ]);
    sixth = refl;
    seventh = refl;
    rest = zeros_past-from (node_page z level entries n) (8 + 2 * length (run_of z entries n))
        (rest_is level (low_of z entries n) (high_fence_of z entries n) (run_of z entries n));
  })
