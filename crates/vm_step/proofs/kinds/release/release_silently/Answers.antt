use Rattle.vm_rule.proofs.Spreading.{none-grouped}
use Rattle.vm_step.proofs.{Prelude.[], Prelude.None, steps.Release.release-allows}
use Rattle.vm_step.proofs.kinds.release.release_silently.Goals as goal

pub store-requires-clause-allows : goal.store-requires-clause-allows
store-requires-clause-allows g c = release-allows _ _ _ g.U.Owner.may_release g.U.Owner.releases g.U.Owner.numbers _ _
    _ _ _ _ c.args.p c.args.version [] None c.args.pass.now.live c.requires.pass.1 c.requires.page c.requires.below
    c.requires.legal c.state_place-at.ensures.place (none-grouped _ g.met.U.Ungrouped.ungrouped _ _ c.args.words.now.groups.takes
    c.args.words.now.grouped c.args.p)
