use Rattle.vm_tree_write.specs.from_vm_step.Prelude.{View}
use Rattle.vm_tree_write.specs.from_vm_tree_read.Waiting.{AreRounds, Waits}
use Rattle.vm_tree_write.proofs.from_vm_tree_read.Rounds.{HasTried}
use Rattle.vm_tree_retry.specs.from_vm_tree_round.Rounds.{IsWriteRound}
use Rattle.vm_tree_del.proofs.waiting.del.Given as goal

-- no try was answered yet
abbrev pub invariant-loop : goal.invariant-loop
invariant-loop g l = HasTried
    (λ (x y : View _). Waits x y × AreRounds (IsWriteRound g.K.Kind.layout (g.K.Kind.rank l.fn.key)) x y) l.pool.words
    g.B.Block.tells l.fn.pass l.pass l.fn.iface l.iface
