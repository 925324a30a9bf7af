use Rattle.vm_rule.proofs.Spreading.{none-grouped}
use Rattle.vm_step.proofs.kinds.release.release_evicted.Goals as goal
use Rattle.vm_step.proofs.steps.Release.{release_evicted-allows}

pub store-requires-clause-allows : goal.store-requires-clause-allows
store-requires-clause-allows g c = release_evicted-allows _ _ _ g.U.Owner.may_release g.U.Owner.releases
    g.U.Owner.numbers _ _ _ _ _ _ c.args.p c.args.version _ c.args.pass.now.live c.requires.pass.1 c.requires.page
    c.requires.below c.requires.legal c.of-new.ensures c.state_place-at.ensures.place (none-grouped _ g.met.U.Ungrouped.ungrouped _ _ c.args.words.now.groups.takes
    c.args.words.now.grouped c.args.p)
