use Rattle.std.proofs.Common.{◌∙◌, ◌≢◌, sym}
use Rattle.vm_script.specs.{declared.event_line.Verb.TheVariants.Look, Verbs.verb_name}
use Rattle.vm_script.proofs.event_words.verb_of.Goals as goal
use Rattle.vm_script.proofs.VerbNames.{differs, each_more}

pub verbs-preserved : goal.verbs-preserved
verbs-preserved c = each_more (λ verb. c.args.word.now ≢ verb_name verb) _ c.verbs.verb-index Look c.verbs-test.true
    c.verbs.invariant (λ e. differs _ _ _ c.eq.ensures c.if-eq.false (e ∙ sym c.name_of.ensures))
