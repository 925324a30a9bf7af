use Rattle.std.proofs.Common.{◌≡◌, ◌*◌, length, take}
use Rattle.vm_image.specs.File.{pages_in, bytes_of_pages, HaveWords}
use Rattle.vm_image.proofs.image.read_pages.Given as goal

abbrev pub invariant-loop-p : goal.invariant-loop-p
invariant-loop-p g l = (l.pages.items ≡ pages_in g.row.N l.bytes l.p)
    × (bytes_of_pages l.pages.items ≡ take (8 * g.row.N * l.p) l.bytes) × (length l.pages.items ≡ l.p)
    × HaveWords g.row.N l.pages.items
