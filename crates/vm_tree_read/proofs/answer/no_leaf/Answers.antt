use Rattle.std.proofs.Common.{◌∙◌, ap, sym, true≢false, inl}
use Rattle.vm_pool.specs.from_vm_rule.Prelude.{last_of}
use Rattle.vm_tree_rule.specs.from_vm_step.Prelude.{Origin, view}
use Rattle.vm_tree_rule.specs.Turns.{WhyDamaged as why}
use Rattle.vm_tree_rule.proofs.{OnWay.way-later, Readings.leaves-self, Readings.reads-self, Readings.valid-reads, Surely.known-at}
use Rattle.vm_tree_rule.proofs.Entering.{damaged-turn, opened-reads, refused-turn, untold}
use Rattle.vm_tree_rule.proofs.Whole.{tree-size}
use Rattle.vm_tree_read.proofs.Answering.{leaf-must}
use Rattle.vm_tree_read.proofs.answer.no_leaf.Goals as goal

pub returns-in-Ok-clause-turn : goal.returns-in-Ok-clause-turn
returns-in-Ok-clause-turn g c =
    let valid = c.in-Ok.ensures.ok in
    λ u key low high loaded o awaits way has none.
    let start = (opened-reads _ _ _ u _ o).0.start in
    damaged-turn _ _ _ key u _ _ o
    (untold _ (λ tells. let told = ap (λ (y : Origin). y.tells) start ∙ tells in
    leaf-must g.K.Kind.layout _ _ _ low high loaded _
    (last_of (view c.validate_silently.new.pass) c.args.guard.now.pid).words c.requires.reading has awaits told
    (valid.size ∙ tree-size _ _ _ c.validate_silently.ensures.goes.ready.table.is_shape.size
    c.args.words.now.sized.0 c.args.words.now.size.takes) (valid.validates told) none))
    valid
    (why.other 0 low high loaded (way-later u key _ 0 low high _ _ (valid-reads _ _ _ _ _ _ valid) way)
    (has.0, (valid.same_reads _).loads ∙ has.1) none)

pub returns-in-Ok-clause-sure : goal.returns-in-Ok-clause-sure
returns-in-Ok-clause-sure g c shares low high loaded tells known awaits has none =
    let valid = c.in-Ok.ensures.ok in
    let told = c.requires.ready.table.tells_is ∙ tells in
    leaf-must g.K.Kind.layout _ _ _ low high loaded _
    (last_of (view c.validate_silently.new.pass) c.args.guard.now.pid).words c.requires.reading has awaits told
    (valid.size ∙ tree-size _ _ _ c.validate_silently.ensures.goes.ready.table.is_shape.size
    c.args.words.now.sized.0 c.args.words.now.size.takes) (valid.validates told) none

pub returns-in-Err-clause-turn : goal.returns-in-Err-clause-turn
returns-in-Err-clause-turn g c u key low high loaded o awaits way has none =
    refused-turn _ _ _ g.K.Kind.layout key _ u _ _ _ o (reads-self _) (leaves-self _ _) c.in-Err.ensures.err

pub returns-in-Err-clause-sure : goal.returns-in-Err-clause-sure
returns-in-Err-clause-sure g c shares low high loaded tells known awaits has none =
    true≢false (sym (c.in-Err.ensures.sure known.resident.alone (known-at _ _ _ known)))

pub validate_silently-requires-clause-ready : goal.validate_silently-requires-clause-ready
validate_silently-requires-clause-ready g c = c.requires.ready

pub validate_silently-requires-clause-reading : goal.validate_silently-requires-clause-reading
validate_silently-requires-clause-reading g c = inl c.requires.reading

pub returns-in-Ok-clause-goes : goal.returns-in-Ok-clause-goes
returns-in-Ok-clause-goes g c = c.validate_silently.ensures.goes

pub returns-in-Ok-clause-words : goal.returns-in-Ok-clause-words
returns-in-Ok-clause-words g c = c.validate_silently.ensures.words

pub returns-in-Err-clause-goes : goal.returns-in-Err-clause-goes
returns-in-Err-clause-goes g c = c.validate_silently.ensures.goes

pub returns-in-Err-clause-words : goal.returns-in-Err-clause-words
returns-in-Err-clause-words g c = c.validate_silently.ensures.words
