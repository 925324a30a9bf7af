use Rattle.vm_pool.proofs.Prelude.{false, Filled, get_or, map, slots_filled, slots_items, slots_len, Some, take}
use Rattle.vm_pool.proofs.Prelude.{vec_capacity, vec_len, ℕ, ◌<◌, ◌≡◌, ◌≤◌}
use Rattle.vm_pool.proofs.closing.blocks_of.Given as goal

-- the blocks taken so far, and the places that are empty now
abbrev pub invariant-loop-p : goal.invariant-loop-p
invariant-loop-p g l =
    (map Some l.blocks.items ≡ take l.p (slots_items l.initial.table.slots))
    × (slots_items l.table.slots ≡ slots_items l.initial.table.slots)
    × (slots_len l.table.slots ≡ slots_len l.initial.table.slots)
    × Filled (slots_filled l.table.slots) l.p (slots_len l.table.slots)
    × ((k : ℕ) → k < l.p → get_or (slots_filled l.table.slots) k false ≡ false)
    × (vec_len l.blocks ≡ l.p)
    × (slots_len l.initial.table.slots ≤ vec_capacity l.blocks)
