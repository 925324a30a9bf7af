use Rattle.std.proofs.Common.{◌≡◌, ℕ, ◌<◌, length, take, slice_index_or}
use Rattle.vm_page.specs.Pages.{page_at}
use Rattle.vm_block.specs.Memory.{IsNewBlock}
use Rattle.vm_block.specs.declared.memory.MemBlock.{MemBlock}
use Rattle.vm_image.specs.Blocks.{numbers_for, pages_of_blocks}
use Rattle.vm_image.proofs.blocks.blocks_of.Given as goal

abbrev pub invariant-loop-p : goal.invariant-loop-p
invariant-loop-p g l = (pages_of_blocks l.blocks.items ≡ take l.p l.image) × (length l.blocks.items ≡ l.p)
    × ((k : ℕ) (d : MemBlock g.row.N) → k < l.p → IsNewBlock (slice_index_or l.blocks.items k d) (page_at l.image k) (numbers_for l.plan k))
