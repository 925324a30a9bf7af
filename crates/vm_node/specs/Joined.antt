-- The words of a page that takes over the pairs of the next one, and its high fence.
use Rattle.std.specs.Prelude.{ℕ, ◌+◌, ◌-◌, ◌*◌, ◌==◌, nat_lt, min, List, map, slice_index, if◌then◌else◌}
use Rattle.std.specs.List.{range_with_len}
use Rattle.vm_tree_model.specs.Fixed.{capacity}

-- how many pairs a page of n words has: a count above the capacity is read as the capacity
abbrev pub read_count : ℕ → List ℕ → ℕ
read_count n words = min (slice_index words 1) (capacity n)

-- word i, where the left page has the first number of pairs and the right one, whose pairs stand behind them then, the second
abbrev pub word_joined : List ℕ → List ℕ → ℕ → ℕ → ℕ → ℕ
word_joined left right first second i =
    if i == 1 then first + second
    else if i == 3 then slice_index right 3
    else if i == 4 then slice_index right 4
    else if nat_lt i (8 + 2 * first) then slice_index left i
    else if nat_lt i (8 + 2 * (first + second)) then slice_index right (i - 2 * first)
    else 0

abbrev pub joined_word : ℕ → List ℕ → List ℕ → ℕ → ℕ
joined_word n left right i = word_joined left right (read_count n left) (read_count n right) i

-- the left page with the pairs of both
abbrev pub joined_words : ℕ → List ℕ → List ℕ → List ℕ
joined_words n left right = map (λ i. joined_word n left right i) (range_with_len 0 n)
