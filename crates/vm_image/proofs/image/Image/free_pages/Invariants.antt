use Rattle.std.proofs.Common.{◌<◌, ◌≤◌}
use Rattle.vm_image.specs.File.{AreFreePages}
use Rattle.vm_image.proofs.image.Image.free_pages.Given as goal

abbrev pub invariant-loop-p : goal.invariant-loop-p
invariant-loop-p g l = record { so_far : AreFreePages g.row.N l.self l.p l.free.items; none : l.next < 1 → l.p ≤ 1 }
