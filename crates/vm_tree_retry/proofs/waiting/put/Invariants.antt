use Rattle.vm_tree_round.specs.from_vm_step.Prelude.{View}
use Rattle.vm_tree_round.specs.from_vm_tree_read.Waiting.{AreRounds}
use Rattle.vm_tree_round.proofs.from_vm_tree_read.Rounds.{HasTried}
use Rattle.vm_tree_round.specs.from_vm_tree_split.{Splits.KeepsLocksOnly}
use Rattle.vm_tree_round.specs.Rounds.{IsPutRound}
use Rattle.vm_tree_retry.proofs.waiting.put.Given as goal

-- no try was answered yet
abbrev pub invariant-loop : goal.invariant-loop
invariant-loop g l = HasTried
    (λ (x y : View _). KeepsLocksOnly x y
    × AreRounds (IsPutRound g.K.Kind.plain g.K.Kind.layout g.K.Kind.spare (g.K.Kind.rank l.fn.key)) x y) l.pool.words
    g.B.Block.tells l.fn.pass l.pass l.fn.iface l.iface
