use Rattle.vm_tree_rule.specs.from_vm_step.Prelude.{NoneExpected, View}
use Rattle.vm_tree_read.specs.Waiting.{HasRounds, IsRound, Waits}
use Rattle.vm_tree_read.proofs.Rounds.{HasTried}
use Rattle.vm_tree_read.proofs.within.window_said_within.Given as goal

-- so many rounds were made, and none of them was answered
abbrev pub invariant-rounds : goal.invariant-rounds
invariant-rounds g l = HasTried
    (λ (x y : View _). Waits x y × HasRounds (IsRound g.K.Kind.layout NoneExpected (g.K.Kind.rank l.fn.start)) l._made x y)
    l.pool.words g.B.Block.tells l.fn.pass l.pass l.fn.iface l.iface
