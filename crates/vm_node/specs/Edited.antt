-- The words of a page of n words as an edit of one pair leaves them: a count above the capacity is read as the capacity.
use Rattle.std.specs.Prelude.{ℕ, ◌+◌, ◌-◌, ◌*◌, ◌==◌, ◌<◌, ◌≡◌, ◌≢◌, ◌≤◌, ◌⊎◌, nat_lt, min, List, map, slice_index, if◌then◌else◌}
use Rattle.std.specs.List.{range_with_len}
use Rattle.vm_tree_model.specs.Fixed.{capacity}
use Rattle.vm_node.specs.declared.edit.Edit.{Edit}
use Rattle.vm_node.specs.declared.edit.Edit.TheVariants.{Over, Into, Out}

-- the value at place `at` is written over
abbrev pub word_over : List ℕ → ℕ → ℕ → ℕ → ℕ
word_over words at value i = if i == 9 + 2 * at then value else slice_index words i

-- a pair is in at place `at`, and those of the first `count` from there on stand two words further on
abbrev pub word_into : List ℕ → ℕ → ℕ → ℕ → ℕ → ℕ → ℕ
word_into words at count key value i =
    if i == 1 then count + 1
    else if nat_lt i (8 + 2 * at) then slice_index words i
    else if i == 8 + 2 * at then key
    else if i == 9 + 2 * at then value
    else if nat_lt i (10 + 2 * count) then slice_index words (i - 2)
    else slice_index words i

-- the pair at place `at` is out, those of the first `count` behind it stand two words before, and zeros where the last one was
abbrev pub word_out : List ℕ → ℕ → ℕ → ℕ → ℕ
word_out words at count i =
    if i == 1 then count - 1
    else if nat_lt i (8 + 2 * at) then slice_index words i
    else if nat_lt i (6 + 2 * count) then slice_index words (i + 2)
    else if nat_lt i (8 + 2 * count) then 0
    else slice_index words i

-- word i after the edit
abbrev pub edited_word : ℕ → List ℕ → Edit → ℕ → ℕ
edited_word n words (Over at value) i = word_over words at value i
edited_word n words (Into at count key value) i = word_into words at (min count (capacity n)) key value i
edited_word n words (Out at count) i = word_out words at (min count (capacity n)) i

-- the page after the edit
abbrev pub edited : ℕ → List ℕ → Edit → List ℕ
edited n words edit = map (λ i. edited_word n words edit i) (range_with_len 0 n)

-- of each page the edit leaves the words but the count before the first of these places, and from the second on
abbrev pub LeavesElse : ℕ → Edit → ℕ → ℕ → Type 0
LeavesElse n edit first end = (words : List ℕ) (i : ℕ) → i < n → i ≢ 1 → (i < first) ⊎ (end ≤ i)
    → edited_word n words edit i ≡ slice_index words i
