use Rattle.std.proofs.Common.{ap, sym, ◌∙◌}
use Rattle.std.specs.Str.{bytes_eq}
use Rattle.clap.specs.Words.{Text}
use Rattle.vm_words.specs.declared.form.FormVerb.TheVariants.{Run}
use Rattle.vm_words.specs.Forms.{verbs}
use Rattle.vm_words.proofs.Table.{next_verb}
use Rattle.vm_words.proofs.reader.verb_of.Goals as goal

pub verbs-preserved : goal.verbs-preserved
verbs-preserved c =
    next_verb c.args.word.now verbs c.verbs.verb-index Run c.verbs-test.true
    (ap (λ (t : Text). bytes_eq t c.args.word.now) (sym c.title_of.ensures) ∙ sym c.eq.ensures ∙ c.if-eq.false)
    ∙ c.verbs.invariant
