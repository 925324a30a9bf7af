use Rattle.std.proofs.Common.{rules, ◌<◌, ℕ, All, IsPermutation}
use Rattle.std.proofs.lemmas.List.Sorted.{IsNonDecreasingBy-from_sort_by_key, length_permutation}
use Rattle.std.specs.List.Sorted.{IsNonDecreasingBy}
use Rattle.vm_map.specs.Keys.{KEY_END}
use Rattle.vm_build.proofs.Sorted.{sorted_is_map, sorted_rises}
use Rattle.vm_build.proofs.sorting.sorted.Goals as goal

module _ (c : goal.After-sort_unstable_by_key) where
  -- the sort moves the pairs
  moved : IsPermutation c.args.pairs.now c.sort_unstable_by_key.new.self.items
  moved = rw c.in_ok-sorted.ensures.same at c.sort_unstable_by_key.ensures.permutation

  below : All (λ (e : ℕ × ℕ). e.0 < KEY_END) c.args.pairs.now
  below = rw c.in_ok-sorted.ensures.same at c.in_ok-sorted.ensures.keys

  -- and then no key falls
  up : IsNonDecreasingBy (λ (e : ℕ × ℕ). e.0) c.sort_unstable_by_key.new.self.items
  up = IsNonDecreasingBy-from_sort_by_key (λ (e : ℕ × ℕ). e.0) _ c.sort_unstable_by_key.ensures.sorted (λ a r q k. search rules)

pub returns-clause-map : goal.returns-clause-map
returns-clause-map c = sorted_is_map c.args.pairs.now c.sort_unstable_by_key.new.self.items (moved c) c.requires (below c) (up c)

pub returns-clause-rises : goal.returns-clause-rises
returns-clause-rises c = sorted_rises c.args.pairs.now c.sort_unstable_by_key.new.self.items (moved c) c.requires (below c) (up c)

pub returns-clause-count : goal.returns-clause-count
returns-clause-count c = length_permutation c.args.pairs.now c.sort_unstable_by_key.new.self.items (moved c)
