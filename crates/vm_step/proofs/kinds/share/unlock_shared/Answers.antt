use Rattle.vm_rule.proofs.Spreading.{none-grouped}
use Rattle.vm_step.proofs.kinds.share.unlock_shared.Goals as goal
use Rattle.vm_step.proofs.steps.Share.{unlock_shared-allows}

pub fetch_sub-requires-clause-allows : goal.fetch_sub-requires-clause-allows
fetch_sub-requires-clause-allows g c = unlock_shared-allows _ _ _ _ _ _ _ _ _ c.args.p c.args.pass.now.live
    c.requires.pass.1 c.requires.page c.requires.legal c.state_place-at.ensures.place (none-grouped _ g.met.U.Ungrouped.ungrouped _ _ c.args.words.now.groups.takes
    c.args.words.now.grouped c.args.p)
