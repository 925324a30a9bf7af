use Rattle.vm_group_guard.proofs.Prelude.{InTurn, MarkTold, subst, sym, UNLOCKED, version_of, view, word_of, ◌∙◌}
use Rattle.vm_group_guard.proofs.Quiet.{never-marked, unmarked-all}
use Rattle.vm_step.specs.Prelude.{found_by}
use Rattle.vm_group_guard.proofs.reader.clear_mark.Goals as goal

pub returns-then-state-eq-MARKED-clause-clears : goal.returns-then-state-eq-MARKED-clause-clears
returns-then-state-eq-MARKED-clause-clears g c =
    unmarked-all c.args.head c.args.size c.args.word _ _ _ (sym c.state.ensures ∙ c.if-state-eq-MARKED.true)
    (subst (λ qs. InTurn (λ q n. MarkTold q c.args.word n (word_of UNLOCKED (version_of c.args.word))) qs
    (found_by c.args.word c.unmark_group.result) (view c.args.pass.now)
    (view c.unmark_group.new.pass)) c.requires.group.pages
    c.unmark_group.ensures.told)

pub returns-else-state-eq-MARKED-clause-clears : goal.returns-else-state-eq-MARKED-clause-clears
returns-else-state-eq-MARKED-clause-clears g c =
    never-marked c.args.head c.args.size c.args.word _ (λ e. c.if-state-eq-MARKED.false (c.state.ensures ∙ e))
