use Rattle.std.proofs.Common.{◌≡◌, length, take}
use Rattle.vm_page.specs.Bytes.{words_in}
use Rattle.vm_page.proofs.buf.PageBuf.of_slice.Given as goal

abbrev pub invariant-loop-i : goal.invariant-loop-i
invariant-loop-i g l = (length l.words ≡ g.row.N) × (take l.i l.words ≡ words_in l.bytes l.i)
