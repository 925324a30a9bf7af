use Rattle.vm_rule.proofs.Spreading.{none-grouped}
use Rattle.vm_step.proofs.kinds.write_back.upgrade.Goals as goal
use Rattle.vm_step.proofs.steps.WriteBack.{upgrade-allows}

pub compare_exchange-requires-clause-allows : goal.compare_exchange-requires-clause-allows
compare_exchange-requires-clause-allows g c = upgrade-allows _ _ _ _ g.U.Owner.ties _ _ _ _ _ c.args.p c.args.expects
    _ c.args.pass.now.live c.requires.pass.1 c.requires.page c.requires.legal c.word_with-new.ensures
    c.state_place-at.ensures.place (none-grouped _ g.met.U.Ungrouped.ungrouped _ _ c.args.words.now.groups.takes
    c.args.words.now.grouped c.args.p)
