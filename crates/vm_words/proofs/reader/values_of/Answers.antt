use Rattle.clap.specs.Words.{found_of, rows_of}
use Rattle.vm_words.specs.declared.form.FormSlot.TheVariants.{Image}
use Rattle.vm_words.proofs.Meanings.{filled_more}
use Rattle.vm_words.proofs.reader.values_of.Goals as goal

pub slots-preserved : goal.slots-preserved
slots-preserved c =
    filled_more c.args.slots.now c.slots.slot-index Image (rows_of (found_of c.args.matches.now)) c.slots.values.items
    c.push.new.self.items c.in-Some.value c.slots-test.true c.in_ok-push-in-Some.ensures.items c.slots.invariant
    (rw c.in-Some.is at c.in_ok-value.ensures)
