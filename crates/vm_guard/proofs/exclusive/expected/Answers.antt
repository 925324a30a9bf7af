use Rattle.vm_guard.proofs.Expecting.{expect-resident, not-crowded}
use Rattle.vm_guard.proofs.Prelude.{IfErr-weaker, IfOk-weaker, ◌∙◌}
use Rattle.vm_guard.proofs.exclusive.expected.Goals as goal

pub returns-clause-ok : goal.returns-clause-ok
returns-clause-ok c = IfOk-weaker c.expected.result _ _
    (λ expects k. expect-resident c.args.word expects k.0 k.1
    (λ e. c.if-state-eq-EVICTED.false (c.state.ensures ∙ e))) c.expected.ensures.ok

pub returns-clause-kept : goal.returns-clause-kept
returns-clause-kept c = IfOk-weaker c.expected.result _ _ (λ expects k. k.1) c.expected.ensures.ok

pub returns-clause-denied : goal.returns-clause-denied
returns-clause-denied c = IfErr-weaker c.expected.result _ _ (λ d k. (k.0, not-crowded d k.1)) c.expected.ensures.denied
