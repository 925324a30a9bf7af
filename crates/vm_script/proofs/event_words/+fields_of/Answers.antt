use Rattle.std.proofs.Common.{arith}
use Rattle.vm_script.proofs.event_words.+fields_of.Goals as goal
use Rattle.vm_script.proofs.FieldLists.{no_split, read_more, split_fields}

pub returns-in_default-cut : goal.returns-in_default-cut
returns-in_default-cut t c = λ values is e.
    no_split c.args.shape.now c.in-Some.kind.now c.in-Some.more.now values c.args.text.now
    (grind (arith, c.if-is_empty.ensures)) c.in_default-cut.ensures (rw c.in-Some.ensures.cases.0 at is)
    (rw c.in-Some.ensures.cases.0 at e)

pub returns-in_default-field_of-2 : goal.returns-in_default-field_of-2
returns-in_default-field_of-2 t c = λ values is e.
    let split = split_fields c.args.shape.now c.in-Some.kind.now c.in-Some.more.now values c.args.text.now _ _
    c.requires.shape (grind (arith, c.if-is_empty.ensures)) c.in-Some-cut.ensures
    (rw c.in-Some.ensures.cases.0 at is) (rw c.in-Some.ensures.cases.0 at e) in
    c.in_default-field_of-2.ensures split.first split.is_first split.word_is

pub returns-in_default-fields_of : goal.returns-in_default-fields_of
returns-in_default-fields_of t c = λ values is e.
    let split = split_fields c.args.shape.now c.in-Some.kind.now c.in-Some.more.now values c.args.text.now _ _
    c.requires.shape (grind (arith, c.if-is_empty.ensures)) c.in-Some-cut.ensures
    (rw c.in-Some.ensures.cases.0 at is) (rw c.in-Some.ensures.cases.0 at e) in
    c.in_default-fields_of.ensures split.others split.are_others split.rest_is

pub returns : goal.returns
returns t c = rw c.in-Some.ensures.cases.0
    (read_more c.args.shape.now c.in-Some.kind.now c.in-Some.more.now _ _ _ _ c.in-Some-fields_of.field-0-3
    c.args.text.now _ _ (grind (arith, c.if-is_empty.ensures))
    (omega (arith, c.requires.few, c.in-Some.ensures.cases.1)) c.in-Some-cut.ensures
    c.in-Some-field_of-2.ensures.0 c.in-Some-field_of-2.ensures.1 c.in-Some-fields_of.ensures.0 c.in-Some-fields_of.ensures.1)
