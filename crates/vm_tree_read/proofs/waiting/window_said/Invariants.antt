use Rattle.vm_tree_rule.specs.from_vm_step.Prelude.{NoneExpected, View}
use Rattle.vm_tree_read.specs.Waiting.{AreRounds, IsRound, Waits}
use Rattle.vm_tree_read.proofs.Rounds.{HasTried}
use Rattle.vm_tree_read.proofs.waiting.window_said.Given as goal

-- no try was answered yet
abbrev pub invariant-loop : goal.invariant-loop
invariant-loop g l = HasTried
    (λ (x y : View _). Waits x y × AreRounds (IsRound g.K.Kind.layout NoneExpected (g.K.Kind.rank l.fn.start)) x y)
    l.pool.words g.B.Block.tells l.fn.pass l.pass l.fn.iface l.iface
