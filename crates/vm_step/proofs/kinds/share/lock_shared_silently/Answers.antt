use Rattle.vm_rule.proofs.Spreading.{none-grouped}
use Rattle.vm_step.proofs.Prelude.{inl, None, refl}
use Rattle.vm_step.proofs.kinds.share.lock_shared_silently.Goals as goal
use Rattle.vm_step.proofs.steps.Share.{lock_shared-allows}

pub compare_exchange-requires-clause-allows : goal.compare_exchange-requires-clause-allows
compare_exchange-requires-clause-allows g c = lock_shared-allows _ _ _ _ g.U.Owner.ties g.U.Owner.may_hold
    g.U.Owner.holds _ _ _ _ _ c.args.p c.args.expects None _ c.args.pass.now.live c.requires.pass.1 c.requires.page
    c.requires.legal (inl refl) c.shared_word-new.ensures c.state_place-at.ensures.place (none-grouped _ g.met.U.Ungrouped.ungrouped _ _ c.args.words.now.groups.takes
    c.args.words.now.grouped c.args.p)
