use Rattle.std.proofs.Common.{sym}
use Rattle.clap.specs.Words.{found_of, rows_of}
use Rattle.vm_words.specs.Forms.{slots_in}
use Rattle.vm_words.specs.Values.{meanings_of}
use Rattle.vm_words.proofs.Lines.{nothing_entered, read_line, stranger, unread}
use Rattle.vm_words.proofs.Meanings.{are_meant}
use Rattle.vm_words.proofs.reader.command_in.Goals as goal

pub command_with-requires : goal.command_with-requires
command_with-requires c =
    are_meant (slots_in c.in-Some-verb_of.verb) (rows_of (found_of c.in-Some.inner.now))
    (meanings_of c.in-Some-2.values.items) (rw (c.in-Some-2.is, c.slots_of.ensures) at c.in_ok-values.ensures)

pub returns-in_default : goal.returns-in_default
returns-in_default c = nothing_entered _ c.in_default.ensures

pub returns-in_default-verb_of : goal.returns-in_default-verb_of
returns-in_default-verb_of c = stranger _ c.in-Some.word.now _ c.in-Some.ensures (sym c.in_default-verb_of.ensures)

pub returns-in-None : goal.returns-in-None
returns-in-None c = unread _ c.in-Some.word.now _ c.in-Some-verb_of.verb c.in-Some.ensures
    (sym c.in-Some-verb_of.ensures) (rw (c.in-None.is, c.slots_of.ensures) at c.in_ok-values.ensures)

pub returns-in-Some-2 : goal.returns-in-Some-2
returns-in-Some-2 c =
    read_line _ c.in-Some.word.now _ c.in-Some-verb_of.verb (meanings_of c.in-Some-2.values.items) _ c.in-Some.ensures
    (sym c.in-Some-verb_of.ensures) (rw (c.in-Some-2.is, c.slots_of.ensures) at c.in_ok-values.ensures)
    c.command_with.ensures
