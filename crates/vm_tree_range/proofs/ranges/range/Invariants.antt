use Rattle.std.proofs.Common.{◌≡◌}
use Rattle.vm_step.specs.Prelude.{View}
use Rattle.vm_tree_read.specs.Waiting.{AreRounds, Waits}
use Rattle.vm_tree_read.proofs.Rounds.{HasTried}
use Rattle.vm_tree_range.specs.Ranges.{IsRangeRound}
use Rattle.vm_tree_range.proofs.ranges.range.Given as goal

-- no try was answered yet, and no pair is left of those tried
abbrev pub invariant-loop : goal.invariant-loop
invariant-loop g l = record {
  tried : HasTried (λ (x y : View _). Waits x y
      × AreRounds (IsRangeRound g.K.Kind.layout (g.K.Kind.rank l.fn.low) l.fn.bound) x y) l.pool.words g.B.Block.tells
      l.fn.pass l.pass l.fn.iface l.iface;
  same : l.pairs ≡ l.fn.out;
}
