use Rattle.vm_rule.proofs.Spreading.{none-grouped}
use Rattle.vm_step.proofs.kinds.look.look.Goals as goal
use Rattle.vm_step.proofs.steps.Look.{look-allows}

pub load-requires-clause-allows : goal.load-requires-clause-allows
load-requires-clause-allows g c = look-allows _ _ _ _ g.U.Owner.may_read g.U.Owner.reads g.U.Owner.ties _ _ _ _ _
    c.args.p _ c.args.pass.now.live c.requires.pass.1 c.requires.page c.requires.owner c.state_place-at.ensures.place (none-grouped _ g.met.U.Ungrouped.ungrouped _ _ c.args.words.now.groups.takes
    c.args.words.now.grouped c.args.p)
