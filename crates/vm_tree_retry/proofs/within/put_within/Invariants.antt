use Rattle.vm_tree_round.specs.from_vm_step.Prelude.{View}
use Rattle.vm_tree_round.specs.from_vm_tree_read.Waiting.{HasRounds}
use Rattle.vm_tree_round.proofs.from_vm_tree_read.Rounds.{HasTried}
use Rattle.vm_tree_round.specs.from_vm_tree_split.Splits.{KeepsLocksOnly}
use Rattle.vm_tree_round.specs.Rounds.{IsPutRound}
use Rattle.vm_tree_retry.proofs.within.put_within.Given as goal

-- so many rounds were made, and none of them was answered
abbrev pub invariant-rounds : goal.invariant-rounds
invariant-rounds g l = HasTried
    (λ (x y : View _). KeepsLocksOnly x y × HasRounds (IsPutRound g.K.Kind.plain g.K.Kind.layout g.K.Kind.spare (g.K.Kind.rank l.fn.key))
    l._made x y)
    l.pool.words g.B.Block.tells l.fn.pass l.pass l.fn.iface l.iface
