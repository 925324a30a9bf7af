use Rattle.vm_evict.proofs.FlushVisits.{marked-before}
use Rattle.vm_evict.proofs.Prelude.{sym, view, ◌∙◌}
use Rattle.vm_evict.proofs.flushing.mark_page.Goals as goal

pub returns-then-state-eq-MARKED-clause-marks : goal.returns-then-state-eq-MARKED-clause-marks
returns-then-state-eq-MARKED-clause-marks g c =
    marked-before c.args.p c.args.word (view c.args.pass.now) (sym c.state.ensures ∙ c.if-state-eq-MARKED.true)
