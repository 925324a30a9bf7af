-- The words of the left half of a full node.
use Rattle.std.specs.Prelude.{ℕ, ◌+◌, ◌*◌, ◌/◌, ◌==◌, nat_lt, List, map, slice_index, if◌then◌else◌}
use Rattle.std.specs.List.{range_with_len}
use Rattle.vm_tree_model.specs.Fixed.{capacity}

-- how many pairs each half of a full node of n words has: 14 of 28, or 126 of 252
abbrev pub half_of : ℕ → ℕ
half_of n = capacity n / 2

-- word i of the node's left half: its first pairs, and the separator as its high fence
abbrev pub left_word : ℕ → List ℕ → ℕ → ℕ → ℕ
left_word n words separator i =
    if i == 1 then half_of n
    else if i == 3 then separator
    else if i == 4 then 0
    else if nat_lt i (8 + 2 * half_of n) then slice_index words i
    else 0

-- the left half of the node
abbrev pub left_half : ℕ → List ℕ → ℕ → List ℕ
left_half n words separator = map (λ i. left_word n words separator i) (range_with_len 0 n)
