use Rattle.std.proofs.Common.{◌∙◌, ◌≡◌, ap, subst, sym}
use Rattle.vm_script.specs.{EventWords.used, Verbs.kinds_of}
use Rattle.vm_script.specs.EventLines.{AreFields, fields_text, form}
use Rattle.vm_script.proofs.event_words.event_line_of.Goals as goal
use Rattle.vm_script.proofs.EventTexts.{cut_line, made_line, other_rest}
use Rattle.vm_script.proofs.FieldLists.{fields_narrow}

pub returns-in_default-verb_of : goal.returns-in_default-verb_of
returns-in_default-verb_of c = λ line is e. c.in_default-verb_of.ensures (form line).0 tt (cut_line _ _ _ line c.in-Some.ensures e).0

pub returns-in_default-fields_of : goal.returns-in_default-fields_of
returns-in_default-fields_of c = λ line is e.
    let cut = cut_line _ _ _ line c.in-Some.ensures e in
    let same : (form line).0 ≡ c.in-Some-verb_of.verb = other_rest _ line _ c.in-Some-verb_of.ensures.1 cut.0 in
    let kinds : kinds_of (form line).0 ≡ c.kinds_of.result.now = ap kinds_of same ∙ sym c.kinds_of.ensures in
    c.in_default-fields_of.ensures (form line).1 (subst (λ ks. AreFields c.args.shape.now ks (form line).1) kinds is)
    (cut.1 ∙ ap (λ ks. fields_text ks (form line).1) kinds)

pub returns : goal.returns
returns c =
    let fields = rw c.kinds_of.ensures at c.in-Some-fields_of.ensures in
    made_line c.args.shape.now _ _ _ _ c.in-Some-verb_of.verb (used (kinds_of c.in-Some-verb_of.verb) c.in-Some-fields_of.values)
    (c.line_with.ensures (fields_narrow c.args.shape.now _ _ c.requires fields.0)) fields.0 c.in-Some.ensures
    c.in-Some-verb_of.ensures.1 fields.1
