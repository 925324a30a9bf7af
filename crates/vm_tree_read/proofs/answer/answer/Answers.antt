use Rattle.std.proofs.Common.{◌∙◌, sym, true≢false, inl, refl}
use Rattle.vm_tree_rule.specs.from_vm_step.Prelude.{view}
use Rattle.vm_tree_rule.proofs.{Readings.valid-only, Surely.known-at, Surely.resident-same}
use Rattle.vm_tree_rule.proofs.Whole.{tree-size}
use Rattle.vm_tree_read.proofs.answer.answer.Goals as goal
use Rattle.vm_tree_read.proofs.Answering.{answered, may-tell}

pub validate-requires-clause-owner : goal.validate-requires-clause-owner
validate-requires-clause-owner g c = may-tell g.K.Kind.plain g.K.Kind.layout c.args.guard.now.pid
    (view c.args.pass.now) c.args.said.now c.requires.proves.0
    (tree-size _ _ _ c.requires.ready.table.is_shape.size c.args.words.now.sized.0 c.args.words.now.size.takes)
    c.requires.proves.1 c.requires.proves.2

pub returns-in-Ok-clause-ok : goal.returns-in-Ok-clause-ok
returns-in-Ok-clause-ok g c =
    answered g.K.Kind.plain g.K.Kind.layout _ _ _ c.args.said.now c.requires.proves.0 _ _
    (tree-size _ _ _ c.validate.ensures.goes.ready.table.is_shape.size c.args.words.now.sized.0
    c.args.words.now.size.takes) c.requires.reading c.requires.proves.1 c.requires.proves.2 c.in-Ok.ensures.ok
    (λ tells. c.in-Ok.ensures.kept (sym c.requires.ready.table.tells_is ∙ tells))

pub returns-in-Ok-clause-known : goal.returns-in-Ok-clause-known
returns-in-Ok-clause-known g c known =
    resident-same _ _ (valid-only _ _ _ _ _ _ _ c.in-Ok.ensures.ok) c.in-Ok.ensures.ok.table known.resident

pub returns-in-Err-clause-sure : goal.returns-in-Err-clause-sure
returns-in-Err-clause-sure g c known = c.in-Err.ensures.sure known.resident.alone (known-at _ _ _ known)

pub returns-in-Err-clause-known : goal.returns-in-Err-clause-known
returns-in-Err-clause-known g c known = absurd (true≢false (sym (c.in-Err.ensures.sure known.resident.alone (known-at _ _ _ known))))

pub validate-requires-clause-ready : goal.validate-requires-clause-ready
validate-requires-clause-ready g c = c.requires.ready

pub validate-requires-clause-reading : goal.validate-requires-clause-reading
validate-requires-clause-reading g c = inl c.requires.reading

pub returns-in-Ok-clause-goes : goal.returns-in-Ok-clause-goes
returns-in-Ok-clause-goes g c = c.validate.ensures.goes

pub returns-in-Ok-clause-err : goal.returns-in-Ok-clause-err
returns-in-Ok-clause-err g c = tt

pub returns-in-Ok-clause-sure : goal.returns-in-Ok-clause-sure
returns-in-Ok-clause-sure g c known = refl

pub returns-in-Ok-clause-words : goal.returns-in-Ok-clause-words
returns-in-Ok-clause-words g c = c.validate.ensures.words

pub returns-in-Err-clause-goes : goal.returns-in-Err-clause-goes
returns-in-Err-clause-goes g c = c.validate.ensures.goes

pub returns-in-Err-clause-ok : goal.returns-in-Err-clause-ok
returns-in-Err-clause-ok g c = tt

pub returns-in-Err-clause-err : goal.returns-in-Err-clause-err
returns-in-Err-clause-err g c = c.in-Err.ensures.err

pub returns-in-Err-clause-words : goal.returns-in-Err-clause-words
returns-in-Err-clause-words g c = c.validate.ensures.words
