use Rattle.std.proofs.Common.{◌≡◌, length, take}
use Rattle.vm_image.specs.File.{HaveWords}
use Rattle.vm_image.specs.Blocks.{pages_of_blocks}
use Rattle.vm_image.proofs.blocks.image_of.Given as goal

abbrev pub invariant-loop-block : goal.invariant-loop-block
invariant-loop-block g l = (l.pages.items ≡ pages_of_blocks (take l.block-index l.blocks))
    × (length l.pages.items ≡ l.block-index) × HaveWords g.row.N l.pages.items
