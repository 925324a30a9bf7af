use Rattle.std.proofs.lemmas.Bool.{false≢true}
use Rattle.std.proofs.Common.{subst, sym}
use Rattle.vm_tree_write.proofs.from_vm_tree_rule.Entering.{opened-reads}
use Rattle.vm_tree_write.specs.from_vm_tree_read.Reads.{TellReply}
use Rattle.vm_tree_write.proofs.Telling.{not-valid}
use Rattle.vm_tree_del.proofs.Leaving.{del-none}
use Rattle.vm_tree_del.proofs.once.missed.Goals as goal

-- what is said is read as the call that the words prove
pub answer-requires-clause-proves : goal.answer-requires-clause-proves
answer-requires-clause-proves g c =
    let k = c.requires.proves in (k.0, k.1, subst (TellReply g.K.Kind.layout k.0) (sym c.gone-said.ensures) k.2)

pub returns-in-Ok-clause-del : goal.returns-in-Ok-clause-del
returns-in-Ok-clause-del g c v o = del-none g.K.Kind.plain g.K.Kind.layout (g.K.Kind.plain c.gone-said.result)
    (g.K.Kind.rank c.args.key.now) v _ _ c.gone-said.ensures (opened-reads _ _ _ _ _ o) c.in-Ok.ensures.ok

pub returns-clause-del : goal.returns-clause-del
returns-clause-del g c v o = not-valid g.K.Kind.layout _ _ _ (g.K.Kind.rank c.args.key.now) _ _ _ _ o c.in-Err.ensures.err

pub returns-clause-sure : goal.returns-clause-sure
returns-clause-sure g c known = absurd (false≢true (c.in-Err.ensures.sure known))

pub returns-in-Ok-clause-known : goal.returns-in-Ok-clause-known
returns-in-Ok-clause-known g c known = c.answer.ensures.known known

pub returns-clause-known : goal.returns-clause-known
returns-clause-known g c known = c.answer.ensures.known known
