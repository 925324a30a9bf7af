use Rattle.std.proofs.Common.{◌≡◌, ◌*◌, length, take}
use Rattle.vm_page.specs.Bytes.{bytes_of_words}
use Rattle.vm_page.proofs.buf.write_words.Given as goal

abbrev pub invariant-loop-i : goal.invariant-loop-i
invariant-loop-i l = (length l.bytes ≡ 8 * length l.words) × (take (8 * l.i) l.bytes ≡ bytes_of_words (take l.i l.words))
