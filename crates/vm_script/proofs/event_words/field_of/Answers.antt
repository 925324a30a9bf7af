use Rattle.std.proofs.Common.{◌∙◌, ◌≡◌, IsTrue, subst, sym}
use Rattle.std.proofs.lemmas.Fmt.{decimal_injective}
use Rattle.vm_script.specs.EventLines.{IsField}
use Rattle.vm_script.proofs.event_words.field_of.Goals as goal
use Rattle.vm_script.proofs.FieldLists.{field_small, plain_text}

pub returns-else-is_field : goal.returns-else-is_field
returns-else-is_field c = λ value is e.
    let small = field_small c.args.shape.now c.args.kind value c.requires is in
    let same : value ≡ c.in-Some.value = decimal_injective _ _ small c.in-Some.ensures.0
    (sym (plain_text c.args.kind value c.in_default.not-State) ∙ sym e ∙ c.in-Some.ensures.1) in
    let good : IsTrue c.is_field.result = (c.is_field.ensures c.in-Some.ensures.0).1
    (subst (λ v. IsField c.args.shape.now c.args.kind v) same is) in
    cc
