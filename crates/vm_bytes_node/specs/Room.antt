-- How much room a page of a node with byte keys has left, as its words tell.
use Rattle.std.specs.Prelude.{ℕ, ◌+◌, ◌-◌, ◌/◌, ◌==◌, List, min, slice_index, if◌then◌else◌}
use Rattle.vm_bytes_node.specs.Limits.{MOST_SLOTS}

-- how many pairs there are
abbrev pub count_shown : List ℕ → ℕ
count_shown words = min (slice_index words 1) MOST_SLOTS

-- the slot of what stands lowest: that of the last pair, else of the high fence, else of the low one, else 0
abbrev pub lowest_slot : List ℕ → ℕ
lowest_slot words =
    if count_shown words == 0 then (if slice_index words 4 == 0 then slice_index words 3 else slice_index words 4)
    else slice_index words (7 + count_shown words)

-- the place that a slot names, and the page's end for the slot 0
abbrev pub place_of_slot : ℕ → ℕ
place_of_slot slot = if slot == 0 then 512 else min 512 (slot / 256)

-- the words between the slots and what stands lowest
abbrev pub spare_words : List ℕ → ℕ
spare_words words = place_of_slot (lowest_slot words) - (8 + count_shown words)
