use Rattle.std.proofs.Common.{take}
use Rattle.clap.specs.Words.{found_of, rows_of}
use Rattle.vm_words.specs.Values.{AreFilled, meanings_of}
use Rattle.vm_words.proofs.reader.values_of.Given as goal

abbrev pub invariant-slots : goal.invariant-slots
invariant-slots l = AreFilled (take l.slot-index l.slots) (rows_of (found_of l.matches)) (meanings_of l.values.items)
