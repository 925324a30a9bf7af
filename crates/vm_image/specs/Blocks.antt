-- The blocks of an image's pages, and the image of blocks.
use Rattle.std.specs.Prelude.{◌≡◌, ℕ, ◌<◌, ◌==◌, List, length, map, slice_index_or}
use Rattle.std.specs.List.{filter}
use Rattle.vm_page.specs.Pages.{page_at}
use Rattle.vm_block.specs.Memory.{words_of, IsNewBlock}
use Rattle.vm_block.specs.declared.memory.MemBlock.{MemBlock}
use Rattle.vm_image.specs.declared.blocks.PlannedFault.{PlannedFault}

-- the numbers of a page's entries in a plan, in the plan's order
abbrev pub numbers_for : List PlannedFault → ℕ → List ℕ
numbers_for plan page = map (λ fault. fault.number) (filter (λ fault. fault.page == page) plan)

-- the words that each block holds
abbrev pub pages_of_blocks : {n : ℕ} → List (MemBlock n) → List (List ℕ)
pages_of_blocks blocks = map words_of blocks

-- a block for each page, with the page's words and just its numbers of the plan, and with nothing counted
pub record AreBlocksOf {n : ℕ} (pages : List (List ℕ)) (plan : List PlannedFault) (blocks : List (MemBlock n)) : Type 0 where
  pub held : pages_of_blocks blocks ≡ pages
  pub fresh : (p : ℕ) (d : MemBlock n) → p < length pages → IsNewBlock (slice_index_or blocks p d) (page_at pages p) (numbers_for plan p)
