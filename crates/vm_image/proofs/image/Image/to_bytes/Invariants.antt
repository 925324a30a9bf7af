use Rattle.std.proofs.Common.{◌≡◌, ◌*◌, length, take}
use Rattle.vm_image.specs.File.{pages_in, bytes_of_pages}
use Rattle.vm_image.proofs.image.Image.to_bytes.Given as goal

abbrev pub invariant-loop-p : goal.invariant-loop-p
invariant-loop-p g l = (l.bytes.items ≡ bytes_of_pages (take l.p l.self)) × (length l.bytes.items ≡ 8 * g.row.N * l.p)
    × (length l.written ≡ 8 * g.row.N) × (pages_in g.row.N l.bytes.items l.p ≡ take l.p l.self)
