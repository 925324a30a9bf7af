use Rattle.std.proofs.Common.{ap, ◌∙◌}
use Rattle.clap.specs.Words.{App, app_of, with_subcommand}
use Rattle.vm_words.specs.declared.form.FormVerb.TheVariants.{Run}
use Rattle.vm_words.specs.Forms.{verbs}
use Rattle.vm_words.proofs.Table.{next_command}
use Rattle.vm_words.proofs.app.vmcache.Goals as goal

pub verbs-preserved : goal.verbs-preserved
verbs-preserved c =
    next_command (app_of c.verbs.vmcache) _ verbs c.verbs.verb-index Run c.verbs-test.true
    (c.in_ok-vmcache.ensures.shape c.in_ok-command_of.ensures.local
    ∙ ap (λ (a : App). with_subcommand (app_of c.verbs.vmcache) a.top) c.in_ok-command_of.ensures.app)
    ∙ c.verbs.invariant
