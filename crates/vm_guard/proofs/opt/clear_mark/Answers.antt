use Rattle.vm_guard.proofs.{Prelude.sym, Prelude.◌∙◌, Unmarking.not-marked, Unmarking.unmarked}
use Rattle.vm_guard.proofs.opt.clear_mark.Goals as goal

pub returns-then-state-eq-MARKED-clause-clears : goal.returns-then-state-eq-MARKED-clause-clears
returns-then-state-eq-MARKED-clause-clears g c = unmarked _ _ _ _ _ (sym c.state.ensures ∙ c.if-state-eq-MARKED.true) c.unmark.ensures.told

pub returns-else-state-eq-MARKED-clause-clears : goal.returns-else-state-eq-MARKED-clause-clears
returns-else-state-eq-MARKED-clause-clears g c = not-marked _ _ _ (λ e. c.if-state-eq-MARKED.false (c.state.ensures ∙ e))
